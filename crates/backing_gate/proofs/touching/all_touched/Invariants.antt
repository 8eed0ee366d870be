-- Of the trees so far the instances that are given.
use Rattle.std.proofs.Common.{take}
use Rattle.outside.specs.Changes.{AllTouched}
use Rattle.backing_gate.proofs.touching.all_touched.Given as goal

abbrev pub invariant-loop-tree : goal.invariant-loop-tree
invariant-loop-tree l = AllTouched l.tables l.log l.wants (take l.tree-index l.trees) l.out.items
