use Rattle.line_laws.proofs.PassedStatements.{passes_on_kept}
use Rattle.line_laws.proofs.QueryStatements.{selects_kept, writes_cached_kept}
use Rattle.line_laws.proofs.laws.query_line_law.Goals as goal

pub returns-clause-selects : goal.returns-clause-selects
returns-clause-selects c = selects_kept

pub returns-clause-writes : goal.returns-clause-writes
returns-clause-writes c = writes_cached_kept

pub returns-clause-passes_on : goal.returns-clause-passes_on
returns-clause-passes_on c = passes_on_kept
