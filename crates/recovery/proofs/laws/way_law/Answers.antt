use Rattle.recovery.proofs.SafeLaws.{way_begins}
use Rattle.recovery.proofs.laws.way_law.Goals as goal

pub returns : goal.returns
returns c = way_begins
