-- The rows so far are there, and the key of the last one decides. One foreign key less is left.
use Rattle.std.proofs.Common.{◌≡◌}
use Rattle.instances.specs.Roots.{root_within}
use Rattle.instances.proofs.rooting.root_within.Given as goal

abbrev pub invariant-loop-at : goal.invariant-loop-at
invariant-loop-at l = root_within l.n l.tables l.tree l.place l.key ≡ root_within l.left l.tables l.tree l.at l.above

abbrev pub decreases-loop-at : goal.decreases-loop-at
decreases-loop-at l = l.left
