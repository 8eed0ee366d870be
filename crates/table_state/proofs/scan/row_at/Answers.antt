use Rattle.table_state.proofs.EmptyTables.{past_values}
use Rattle.table_state.proofs.scan.row_at.Goals as goal
use Rattle.std.proofs.Common.{arith}

-- past the last row
pub returns-else-place-len : goal.returns-else-place-len
returns-else-place-len c = past_values c.args.rows.now c.args.place (omega (arith, c.if-place-len.false, c.len.ensures))
