use Rattle.order_laws.proofs.FlowLaws.{flow_commits}
use Rattle.order_laws.proofs.flows.flow_commit_law.Goals as goal

pub returns : goal.returns
returns c = flow_commits
