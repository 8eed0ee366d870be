-- The list gets shorter.
use Rattle.std.proofs.Common.{length}
use Rattle.slot_rows.proofs.orders.+reserve_each.Given as goal

abbrev pub decreases-reserve_each : goal.decreases-reserve_each
decreases-reserve_each l = length l.orders.now
