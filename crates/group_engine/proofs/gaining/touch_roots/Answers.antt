use Rattle.std.proofs.Common.{refl}
use Rattle.group_engine.proofs.GainingLaws.{touched_next, touched_last}
use Rattle.group_engine.proofs.gaining.touch_roots.Goals as goal

pub loop-place-init : goal.loop-place-init
loop-place-init c = record { table = refl; key = refl; foreign = refl; layers = refl; tables = refl; keys = refl }

pub loop-place-preserved : goal.loop-place-preserved
loop-place-preserved c =
    touched_next c.args.rows.now c.loop-place.place c.entry_at.result.now c.args.store.now c.loop-place.store c.touch.new.self c.entry_at.ensures c.loop-place.invariant c.touch.ensures.touched

pub returns-clause-touched : goal.returns-clause-touched
returns-clause-touched c = touched_last c.args.rows.now c.loop-place.place c.len-place-end.result c.args.store.now c.loop-place.store c.len-place-end.ensures.value c.loop-place-test.false c.loop-place.invariant
