use Rattle.std.proofs.Common.{None, Ok}
use Rattle.cache_tier.specs.SessionSteps.{flag_answer}
use Rattle.stored_tier.proofs.QuietLaws.{answered_quietly, its_session}
use Rattle.cache_engine.proofs.calling.give_level.Goals as goal

pub returns-clause-performs : goal.returns-clause-performs
returns-clause-performs c = λ site s has w at is unshared.
    answered_quietly c.args.tier.now c.set_level.new.self site w None (flag_answer w.tier s.label c.args.level) (Ok c.set_level.result) at is is.waits
    c.set_level.ensures.rows c.set_level.ensures.hidden
    (λ none. c.session_law.ensures.sets w s c.args.level is.stands (its_session c.args.tier.now w.tier c.args.id s is.stored has))
    (c.set_level.ensures.answers w.tier s is.stored has)
