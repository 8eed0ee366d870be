use Rattle.order_laws.proofs.FlowLaws.{flow_settles}
use Rattle.order_laws.proofs.flows.flow_settle_law.Goals as goal

pub returns : goal.returns
returns c = flow_settles
