-- What is kept so far, and the children that are left.
use Rattle.std.proofs.Common.{◌≡◌, [], ◌∷◌, drop}
use Rattle.instances.specs.Views.{with_children}
use Rattle.instances.proofs.viewing.with_followed.Given as goal

abbrev pub invariant-loop-child : goal.invariant-loop-child
invariant-loop-child l = with_children l.tables (drop l.child-index l.children) l.kept.items ≡ with_children l.tables l.children (l.fn.root ∷ [])
