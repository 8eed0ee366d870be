use Rattle.row_types.proofs.OrderLaws.{rescaled_is}
use Rattle.row_types.proofs.laws.rescaled_law.Goals as goal

pub returns : goal.returns
returns c = rescaled_is
