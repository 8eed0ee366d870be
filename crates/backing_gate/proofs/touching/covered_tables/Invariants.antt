-- The tables of the trees so far, and of those that are left.
use Rattle.std.proofs.Common.{◌≡◌, ◌++◌, drop}
use Rattle.std.specs.List.{flat_map}
use Rattle.outside.specs.Changes.{tree_tables}
use Rattle.backing_gate.proofs.touching.covered_tables.Given as goal

abbrev pub invariant-loop-tree : goal.invariant-loop-tree
invariant-loop-tree l = l.tables.items ++ flat_map tree_tables (drop l.tree-index l.trees) ≡ flat_map tree_tables l.trees
