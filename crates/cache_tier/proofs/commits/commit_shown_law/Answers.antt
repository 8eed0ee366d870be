use Rattle.cache_tier.proofs.CommitLaws.{session_commits}
use Rattle.cache_tier.proofs.commits.commit_shown_law.Goals as goal

pub returns : goal.returns
returns c = session_commits
