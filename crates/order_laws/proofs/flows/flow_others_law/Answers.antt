use Rattle.order_laws.proofs.FlowLaws.{flow_others}
use Rattle.order_laws.proofs.flows.flow_others_law.Goals as goal

pub returns : goal.returns
returns c = flow_others
