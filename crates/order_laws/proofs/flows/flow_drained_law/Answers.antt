use Rattle.order_laws.proofs.FlowLaws.{flow_drained}
use Rattle.order_laws.proofs.flows.flow_drained_law.Goals as goal

pub returns : goal.returns
returns c = flow_drained
