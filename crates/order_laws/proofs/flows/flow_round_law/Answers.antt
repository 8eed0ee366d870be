use Rattle.order_laws.proofs.FlowLaws.{flow_round}
use Rattle.order_laws.proofs.flows.flow_round_law.Goals as goal

pub returns : goal.returns
returns c = flow_round
