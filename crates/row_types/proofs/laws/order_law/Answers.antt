use Rattle.row_types.proofs.OrderLaws.{order_total, order_exact}
use Rattle.row_types.proofs.laws.order_law.Goals as goal

pub returns-clause-total : goal.returns-clause-total
returns-clause-total c = order_total

pub returns-clause-exact : goal.returns-clause-exact
returns-clause-exact c = order_exact
