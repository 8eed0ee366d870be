use Rattle.line_laws.proofs.BrokenCommits.{commits_broken, commits_later_broken, commits_now_broken, creates_broken}
use Rattle.line_laws.proofs.laws.broken_commit_law.Goals as goal

pub returns-clause-commits_later : goal.returns-clause-commits_later
returns-clause-commits_later c = commits_later_broken

pub returns-clause-commits_now : goal.returns-clause-commits_now
returns-clause-commits_now c = commits_now_broken

pub returns-clause-commits : goal.returns-clause-commits
returns-clause-commits c = commits_broken

pub returns-clause-creates : goal.returns-clause-creates
returns-clause-creates c = creates_broken
