use Rattle.commit_journal.proofs.StandingLaws.{rest_standing}
use Rattle.commit_journal.proofs.laws.standing_law.Goals as goal

pub returns : goal.returns
returns c = rest_standing
