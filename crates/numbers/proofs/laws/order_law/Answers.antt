use Rattle.numbers.proofs.FloorLaws.{floor_rises}
use Rattle.numbers.proofs.OrderLaws.{order_total, order_same}
use Rattle.numbers.proofs.laws.order_law.Goals as goal

pub returns-clause-total : goal.returns-clause-total
returns-clause-total c = order_total

pub returns-clause-same : goal.returns-clause-same
returns-clause-same c = order_same

pub returns-clause-floor : goal.returns-clause-floor
returns-clause-floor c = floor_rises
