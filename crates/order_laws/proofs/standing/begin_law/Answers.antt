use Rattle.order_laws.proofs.ProgressLaws.{begins}
use Rattle.order_laws.proofs.standing.begin_law.Goals as goal

pub returns : goal.returns
returns c = begins
