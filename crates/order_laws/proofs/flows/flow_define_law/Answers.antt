use Rattle.order_laws.proofs.FlowLaws.{flow_dropped, flow_group, flow_table}
use Rattle.order_laws.proofs.flows.flow_define_law.Goals as goal

pub returns-clause-table : goal.returns-clause-table
returns-clause-table c = flow_table

pub returns-clause-group : goal.returns-clause-group
returns-clause-group c = flow_group

pub returns-clause-dropped : goal.returns-clause-dropped
returns-clause-dropped c = flow_dropped
