use Rattle.std.proofs.Common.{None, Ok}
use Rattle.cache_tier.specs.SessionSteps.{close_answer}
use Rattle.stored_tier.proofs.QuietLaws.{answered_quietly, its_session}
use Rattle.session_engine.proofs.resting.close_session.Goals as goal

pub returns-clause-performs : goal.returns-clause-performs
returns-clause-performs c = λ site s has w at is unshared.
    answered_quietly c.args.tier.now c.close.new.self site w None (close_answer w.tier s.label) (Ok c.close.result) at is is.waits
    c.close.ensures.rows c.close.ensures.hidden
    (λ none. c.session_law.ensures.closes w s is.stands (its_session c.args.tier.now w.tier c.args.id s is.stored has))
    (c.close.ensures.answers w.tier s is.stored has)
