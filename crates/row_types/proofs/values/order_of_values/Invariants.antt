-- The values so far are equal, so those that are left decide. They get fewer.
use Rattle.std.proofs.Common.{◌≡◌, length}
use Rattle.row_types.specs.Order.{key_order}
use Rattle.row_types.proofs.values.order_of_values.Given as goal

abbrev pub invariant-loop-a : goal.invariant-loop-a
invariant-loop-a l = key_order l.left l.right ≡ key_order l.these l.those

abbrev pub decreases-loop-a : goal.decreases-loop-a
decreases-loop-a l = length l.these
