-- The root's table, and those of the children so far.
use Rattle.std.proofs.Common.{◌≡◌, ◌∷◌, map, take}
use Rattle.instances.specs.declared.tree.Child.{Child}
use Rattle.group_engine.proofs.loading_written.tree_tables.Given as goal

abbrev pub invariant-loop-child : goal.invariant-loop-child
invariant-loop-child l = l.tables.items ≡ l.tree.root.table ∷ map (λ (c : Child). c.table) (take l.child-index l.child-items)
