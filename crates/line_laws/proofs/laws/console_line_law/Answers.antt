use Rattle.line_laws.proofs.ConsoleStatements.{console_kept}
use Rattle.line_laws.proofs.DueStatements.{creates_table_kept}
use Rattle.line_laws.proofs.laws.console_line_law.Goals as goal

pub returns-clause-creates : goal.returns-clause-creates
returns-clause-creates c = creates_table_kept

pub returns-clause-writes : goal.returns-clause-writes
returns-clause-writes c = console_kept
