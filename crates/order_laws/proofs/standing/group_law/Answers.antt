use Rattle.order_laws.proofs.ProgressLaws.{backing_in_groups, virtual_in_groups}
use Rattle.order_laws.proofs.standing.group_law.Goals as goal

pub returns-clause-order : goal.returns-clause-order
returns-clause-order c = virtual_in_groups

pub returns-clause-drained : goal.returns-clause-drained
returns-clause-drained c = backing_in_groups
