use Rattle.order_laws.proofs.FlowLaws.{flow_begins}
use Rattle.order_laws.proofs.flows.flow_begin_law.Goals as goal

pub returns : goal.returns
returns c = flow_begins
