-- The values so far are the same, so those that are left decide. They get fewer.
use Rattle.std.proofs.Common.{◌≡◌, ◌↔◌, length}
use Rattle.row_types.proofs.values.same_values.Given as goal

abbrev pub invariant-loop-a : goal.invariant-loop-a
invariant-loop-a l = (l.left ≡ l.right) ↔ (l.these ≡ l.those)

abbrev pub decreases-loop-a : goal.decreases-loop-a
decreases-loop-a l = length l.these
