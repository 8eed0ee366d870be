use Rattle.order_laws.proofs.FlowLaws.{flow_at_once}
use Rattle.order_laws.proofs.flows.flow_at_once_law.Goals as goal

pub returns : goal.returns
returns c = flow_at_once
