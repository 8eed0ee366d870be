use Rattle.std.proofs.Common.{◌≡◌, ◌++◌, ◌∷◌, map, take}
use Rattle.instances.specs.declared.tree.Child.{Child}
use Rattle.stored_tier.proofs.refreshing.push_tables.Given as goal

abbrev pub invariant-loop-place : goal.invariant-loop-place
invariant-loop-place l = l.tables.items ≡ l.fn.tables.items ++ l.tree.root.table ∷ map (λ (x : Child). x.table) (take l.place l.tree.children)
