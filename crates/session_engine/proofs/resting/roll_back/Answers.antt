use Rattle.std.proofs.Common.{None, Ok}
use Rattle.cache_tier.specs.CommitSteps.{ends}
use Rattle.cache_tier.specs.declared.reply.Last.TheVariants.{Done}
use Rattle.cache_tier.specs.Worlds.{only}
use Rattle.stored_tier.proofs.QuietLaws.{answered_quietly, its_session}
use Rattle.session_engine.proofs.resting.roll_back.Goals as goal

pub returns-clause-performs : goal.returns-clause-performs
returns-clause-performs c = λ site s has w at is unshared.
    answered_quietly c.args.tier.now c.rollback.new.self site w None (ends s w.tier, only (Done 0)) (Ok c.rollback.result) at is is.waits
    c.rollback.ensures.rows c.rollback.ensures.hidden
    (λ none. c.session_law.ensures.ends w s is.stands (its_session c.args.tier.now w.tier c.args.id s is.stored has))
    (c.rollback.ensures.answers w.tier s is.stored has)
