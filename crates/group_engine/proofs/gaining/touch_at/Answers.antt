use Rattle.std.proofs.Common.{◌<◌, ◌≤◌, arith, length}
use Rattle.group_engine.proofs.GainingLaws.{touched_none, touched_within}
use Rattle.group_engine.proofs.gaining.touch_at.Goals as goal

pub returns-then-place-len : goal.returns-then-place-len
returns-then-place-len c =
    let lt : c.args.place < length c.args.made.now.items = omega (arith, c.args.made.now.ok.0, c.len.ensures, c.if-place-len.true) in
    touched_within c.args.place c.args.gained.now c.args.made.now.items c.index_mut.result.now _ lt c.index_mut.ensures.value c.touch_made.ensures

pub returns-else-place-len : goal.returns-else-place-len
returns-else-place-len c =
    let le : length c.args.made.now.items ≤ c.args.place = omega (arith, c.args.made.now.ok.0, c.len.ensures, c.if-place-len.false) in
    touched_none c.args.place c.args.gained.now c.args.made.now.items le
