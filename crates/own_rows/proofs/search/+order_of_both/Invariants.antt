-- The list gets shorter.
use Rattle.std.proofs.Common.{length}
use Rattle.own_rows.proofs.search.+order_of_both.Given as goal

abbrev pub decreases-order_of_both : goal.decreases-order_of_both
decreases-order_of_both l = length l.key.now
