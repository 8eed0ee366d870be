use Rattle.line_laws.proofs.CommitStatements.{drops_kept}
use Rattle.line_laws.proofs.LoadStatements.{drains_kept, loads_kept, refreshes_kept}
use Rattle.line_laws.proofs.laws.round_line_law.Goals as goal

pub returns-clause-drains : goal.returns-clause-drains
returns-clause-drains c = drains_kept

pub returns-clause-loads : goal.returns-clause-loads
returns-clause-loads c = loads_kept

pub returns-clause-refreshes : goal.returns-clause-refreshes
returns-clause-refreshes c = refreshes_kept

pub returns-clause-drops : goal.returns-clause-drops
returns-clause-drops c = drops_kept
