use Rattle.line_laws.proofs.AtOnceStatements.{commits_kept, commits_now_kept}
use Rattle.line_laws.proofs.CommitStatements.{commits_later_kept, creates_kept}
use Rattle.line_laws.proofs.laws.commit_line_law.Goals as goal

pub returns-clause-commits_later : goal.returns-clause-commits_later
returns-clause-commits_later c = commits_later_kept

pub returns-clause-creates : goal.returns-clause-creates
returns-clause-creates c = creates_kept

pub returns-clause-commits_now : goal.returns-clause-commits_now
returns-clause-commits_now c = commits_now_kept

pub returns-clause-commits : goal.returns-clause-commits
returns-clause-commits c = commits_kept
