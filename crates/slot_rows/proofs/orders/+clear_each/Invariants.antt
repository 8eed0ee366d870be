-- The list gets shorter.
use Rattle.std.proofs.Common.{length}
use Rattle.slot_rows.proofs.orders.+clear_each.Given as goal

abbrev pub decreases-clear_each : goal.decreases-clear_each
decreases-clear_each l = length l.orders.now
