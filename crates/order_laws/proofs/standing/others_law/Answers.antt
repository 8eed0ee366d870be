use Rattle.order_laws.proofs.ProgressLaws.{others_come}
use Rattle.order_laws.proofs.standing.others_law.Goals as goal

pub returns : goal.returns
returns c = others_come
