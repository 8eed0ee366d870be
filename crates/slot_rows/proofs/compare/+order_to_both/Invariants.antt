-- The columns get fewer.
use Rattle.std.proofs.Common.{length}
use Rattle.slot_rows.proofs.compare.+order_to_both.Given as goal

abbrev pub decreases-order_to_both : goal.decreases-order_to_both
decreases-order_to_both l = length l.columns.now
