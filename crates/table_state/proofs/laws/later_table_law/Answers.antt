use Rattle.table_state.proofs.IndependenceLaws.{applied_later, all_later, history_whole}
use Rattle.table_state.proofs.laws.later_table_law.Goals as goal

pub returns-clause-one : goal.returns-clause-one
returns-clause-one c = applied_later

pub returns-clause-all : goal.returns-clause-all
returns-clause-all c = all_later

pub returns-clause-whole : goal.returns-clause-whole
returns-clause-whole c = history_whole
