-- The list gets shorter.
use Rattle.std.proofs.Common.{length}
use Rattle.indexed_rows.proofs.rows.+order_to_parts.Given as goal

abbrev pub decreases-order_to_parts : goal.decreases-order_to_parts
decreases-order_to_parts l = length l.values.now
