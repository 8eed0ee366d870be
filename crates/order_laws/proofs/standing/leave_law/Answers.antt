use Rattle.order_laws.proofs.BehindLaws.{behind_by, lower_behind}
use Rattle.order_laws.proofs.ProgressLaws.{one_leaves}
use Rattle.order_laws.proofs.standing.leave_law.Goals as goal

pub returns-clause-stands : goal.returns-clause-stands
returns-clause-stands c = one_leaves

pub returns-clause-behind : goal.returns-clause-behind
returns-clause-behind c = behind_by

pub returns-clause-lower : goal.returns-clause-lower
returns-clause-lower c = lower_behind
