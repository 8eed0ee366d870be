use Rattle.order_laws.proofs.FlowLaws.{flow_comes}
use Rattle.order_laws.proofs.flows.flow_come_law.Goals as goal

pub returns : goal.returns
returns c = flow_comes
