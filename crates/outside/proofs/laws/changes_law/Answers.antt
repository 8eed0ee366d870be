use Rattle.outside.proofs.StayLaws.{untouched_stays}
use Rattle.outside.proofs.laws.changes_law.Goals as goal

pub returns : goal.returns
returns c = record { untouched_stays = untouched_stays }
