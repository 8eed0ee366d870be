use Rattle.open_sessions.specs.Opening.{seen_all}
use Rattle.group_engine.proofs.UnloadHeld.{all_rest, locks_tell, rested_free, roots_refused}
use Rattle.group_engine.proofs.unloading.judge_instances.Goals as goal

pub returns-in-Err-clause-told : goal.returns-in-Err-clause-told
returns-in-Err-clause-told c = roots_refused c.args.tier.now c.args.id c.args.aim.now c.in-Err.refused c.requires c.in-Err.ensures

pub returns-then-have_rested-clause-told : goal.returns-then-have_rested-clause-told
returns-then-have_rested-clause-told c =
    rested_free c.args.tier.now c.args.id c.args.aim.now c.requires c.in-Ok.ensures
    (all_rest c.as_slice.result.now (seen_all c.args.tier.now.sessions) c.have_rested.result c.as_slice.ensures.seen c.have_rested.ensures c.if-have_rested.true)

pub returns-in-Ok-verify-clause-told : goal.returns-in-Ok-verify-clause-told
returns-in-Ok-verify-clause-told c =
    locks_tell c.tier_law.ensures.over_is_applied c.keyed_law.ensures.all c.label_law.ensures.closed c.args.tier.now c.verify.new.self c.args.id c.args.aim.now c.judge_locks.result
    c.requires c.in-Ok.ensures c.in-Ok-verify.ensures.same c.in-Ok-verify.ensures.sound c.in-Ok-verify.ensures.ok c.judge_locks.ensures
