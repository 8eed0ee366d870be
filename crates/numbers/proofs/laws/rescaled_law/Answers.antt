use Rattle.numbers.proofs.Rescaling.{rescaled_is}
use Rattle.numbers.proofs.laws.rescaled_law.Goals as goal

pub returns : goal.returns
returns c = record { only = rescaled_is }
