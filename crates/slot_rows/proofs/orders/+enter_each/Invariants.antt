-- The list gets shorter.
use Rattle.std.proofs.Common.{length}
use Rattle.slot_rows.proofs.orders.+enter_each.Given as goal

abbrev pub decreases-enter_each : goal.decreases-enter_each
decreases-enter_each l = length l.orders.now
