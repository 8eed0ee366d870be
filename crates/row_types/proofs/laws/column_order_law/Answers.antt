use Rattle.row_types.proofs.OrderLaws.{column_order}
use Rattle.row_types.proofs.laws.column_order_law.Goals as goal

pub returns : goal.returns
returns c = column_order
