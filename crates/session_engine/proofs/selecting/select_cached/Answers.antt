use Rattle.session_engine.proofs.QueryLaws.{selected_in, unverified_still}
use Rattle.session_engine.proofs.selecting.select_cached.Goals as goal

pub returns-in-Err-clause-performs : goal.returns-in-Err-clause-performs
returns-in-Err-clause-performs c = λ site.
    unverified_still c.args.tier.now c.verify.new.self site c.args.id c.args.query c.in-Err.ensures.same

pub returns-in-Ok-clause-performs : goal.returns-in-Ok-clause-performs
returns-in-Ok-clause-performs c = λ site.
    selected_in c.use_shown_law.ensures.rows c.tier_law.ensures.over_is_applied c.label_law.ensures.number c.args.tier.now
    c.verify.new.self c.select_verified.new.tier site c.args.id c.args.query c.select_verified.result
    c.in-Ok.ensures.same c.in-Ok.ensures.sound (c.in-Ok.ensures.sound.verified c.in-Ok.ensures.ok)
    c.select_verified.ensures.selects
