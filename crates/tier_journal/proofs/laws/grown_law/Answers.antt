use Rattle.tier_journal.proofs.KeepLaws.{kept_grown}
use Rattle.tier_journal.proofs.laws.grown_law.Goals as goal

pub returns : goal.returns
returns c = kept_grown
