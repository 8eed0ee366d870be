use Rattle.cache_tier.specs.SessionSteps.{open_answer, open_fault}
use Rattle.stored_tier.proofs.QuietLaws.{answered_quietly}
use Rattle.session_engine.proofs.resting.open_session.Goals as goal

pub returns-clause-performs : goal.returns-clause-performs
returns-clause-performs c = λ site w at is unshared.
    answered_quietly c.args.tier.now c.open.new.self site w (open_fault w.tier c.args.label.now)
    (open_answer w.tier c.args.label.now c.args.options) c.open.result at is is.waits c.open.ensures.rows c.open.ensures.hidden
    (λ none. c.session_law.ensures.opens w c.args.label.now c.args.options is.stands none)
    (c.open.ensures.answers w.tier is.stored)
