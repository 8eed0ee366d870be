use Rattle.line_laws.proofs.BrokenCommits.{passes_on_broken}
use Rattle.line_laws.proofs.BrokenQueries.{selects_broken, writes_cached_broken}
use Rattle.line_laws.proofs.laws.broken_query_law.Goals as goal

pub returns-clause-selects : goal.returns-clause-selects
returns-clause-selects c = selects_broken

pub returns-clause-writes : goal.returns-clause-writes
returns-clause-writes c = writes_cached_broken

pub returns-clause-passes_on : goal.returns-clause-passes_on
returns-clause-passes_on c = passes_on_broken
