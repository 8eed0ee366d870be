-- The rows under the parents so far.
use Rattle.instances.specs.Collecting.{Follows}
use Rattle.instances.proofs.following.rows_under.Given as goal

abbrev pub invariant-loop-place : goal.invariant-loop-place
invariant-loop-place l = Follows l.tables l.child l.parents l.place l.out
