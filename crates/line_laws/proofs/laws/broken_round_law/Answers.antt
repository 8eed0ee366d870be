use Rattle.line_laws.proofs.BrokenCommits.{drops_broken}
use Rattle.line_laws.proofs.BrokenRounds.{drains_broken, loads_broken, refreshes_broken}
use Rattle.line_laws.proofs.laws.broken_round_law.Goals as goal

pub returns-clause-drains : goal.returns-clause-drains
returns-clause-drains c = drains_broken

pub returns-clause-loads : goal.returns-clause-loads
returns-clause-loads c = loads_broken

pub returns-clause-refreshes : goal.returns-clause-refreshes
returns-clause-refreshes c = refreshes_broken

pub returns-clause-drops : goal.returns-clause-drops
returns-clause-drops c = drops_broken
