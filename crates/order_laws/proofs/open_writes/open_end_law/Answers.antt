use Rattle.order_laws.proofs.OpenLaws.{open_commit, open_rollback}
use Rattle.order_laws.proofs.open_writes.open_end_law.Goals as goal

pub returns-clause-commit : goal.returns-clause-commit
returns-clause-commit c = open_commit

pub returns-clause-rollback : goal.returns-clause-rollback
returns-clause-rollback c = open_rollback
