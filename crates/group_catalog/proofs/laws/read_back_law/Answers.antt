use Rattle.group_catalog.proofs.ReadBackLaws.{stands_read_back}
use Rattle.group_catalog.proofs.laws.read_back_law.Goals as goal

pub returns : goal.returns
returns c = stands_read_back
