use Rattle.tier_journal.proofs.SizeLaws.{entry_is}
use Rattle.tier_journal.proofs.laws.size_law.Goals as goal

pub returns : goal.returns
returns c = entry_is
