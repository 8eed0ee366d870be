use Rattle.order_laws.proofs.ProgressLaws.{round_comes}
use Rattle.order_laws.proofs.standing.round_law.Goals as goal

pub returns : goal.returns
returns c = round_comes
