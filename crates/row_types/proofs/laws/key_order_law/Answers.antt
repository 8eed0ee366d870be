use Rattle.row_types.proofs.OrderLaws.{key_total, key_exact}
use Rattle.row_types.proofs.laws.key_order_law.Goals as goal

pub returns-clause-total : goal.returns-clause-total
returns-clause-total c = key_total

pub returns-clause-exact : goal.returns-clause-exact
returns-clause-exact c = key_exact
