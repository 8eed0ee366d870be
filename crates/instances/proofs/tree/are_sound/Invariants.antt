-- The children so far are sound.
use Rattle.std.proofs.Common.{◌≡◌, drop}
use Rattle.instances.specs.Trees.{are_sound}
use Rattle.instances.proofs.tree.are_sound.Given as goal

abbrev pub invariant-loop-place : goal.invariant-loop-place
invariant-loop-place l = are_sound l.schema l.tree 0 l.children ≡ are_sound l.schema l.tree l.place (drop l.place l.children)
