use Rattle.recalling.proofs.FoldLaws.{notes_tell_commits}
use Rattle.recalling.proofs.laws.commits_law.Goals as goal

pub returns : goal.returns
returns c = notes_tell_commits
