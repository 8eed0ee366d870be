use Rattle.order_laws.proofs.ProgressLaws.{commits}
use Rattle.order_laws.proofs.standing.commit_law.Goals as goal

pub returns : goal.returns
returns c = commits
