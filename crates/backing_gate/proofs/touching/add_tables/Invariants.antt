-- The root table, those of the children so far, and those of the children that are left.
use Rattle.std.proofs.Common.{◌≡◌, ◌++◌, drop, map}
use Rattle.outside.specs.Changes.{tree_tables}
use Rattle.backing_gate.proofs.touching.add_tables.Given as goal

abbrev pub invariant-loop-child : goal.invariant-loop-child
invariant-loop-child l = l.tables.items ++ map (λ child. child.table) (drop l.child-index l.fn.tree.children) ≡ l.fn.tables.items ++ tree_tables l.fn.tree
