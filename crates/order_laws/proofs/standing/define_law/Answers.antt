use Rattle.order_laws.proofs.ProgressLaws.{group_comes, group_goes, table_comes}
use Rattle.order_laws.proofs.standing.define_law.Goals as goal

pub returns-clause-table : goal.returns-clause-table
returns-clause-table c = table_comes

pub returns-clause-group : goal.returns-clause-group
returns-clause-group c = group_comes

pub returns-clause-dropped : goal.returns-clause-dropped
returns-clause-dropped c = group_goes
