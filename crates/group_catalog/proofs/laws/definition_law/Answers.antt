use Rattle.group_catalog.proofs.AcceptedLaws.{has_new_tables, stands_apart, writes_all}
use Rattle.group_catalog.proofs.laws.definition_law.Goals as goal

pub returns-clause-writes_all : goal.returns-clause-writes_all
returns-clause-writes_all c = writes_all

pub returns-clause-stands_apart : goal.returns-clause-stands_apart
returns-clause-stands_apart c = stands_apart

pub returns-clause-has_new_tables : goal.returns-clause-has_new_tables
returns-clause-has_new_tables c = has_new_tables
