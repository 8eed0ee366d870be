use Rattle.propagators.proofs.LeftLaws.{left_and_rest}
use Rattle.propagators.proofs.laws.left_law.Goals as goal

pub returns : goal.returns
returns c = λ shared few old new history later round. left_and_rest shared round.events history later old new round.leads
