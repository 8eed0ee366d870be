use Rattle.tier_journal.proofs.KeepLaws.{may_follow}
use Rattle.tier_journal.proofs.laws.next_law.Goals as goal

pub returns : goal.returns
returns c = may_follow
