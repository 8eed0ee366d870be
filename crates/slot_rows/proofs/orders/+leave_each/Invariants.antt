-- The list gets shorter.
use Rattle.std.proofs.Common.{length}
use Rattle.slot_rows.proofs.orders.+leave_each.Given as goal

abbrev pub decreases-leave_each : goal.decreases-leave_each
decreases-leave_each l = length l.orders.now
