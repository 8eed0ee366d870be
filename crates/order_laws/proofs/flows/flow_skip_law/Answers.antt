use Rattle.order_laws.proofs.FlowLaws.{flow_skips}
use Rattle.order_laws.proofs.flows.flow_skip_law.Goals as goal

pub returns : goal.returns
returns c = flow_skips
