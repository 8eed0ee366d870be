use Rattle.line_laws.proofs.BrokenGroups.{alters_broken, refreshes_called_broken, unloads_broken}
use Rattle.line_laws.proofs.laws.broken_group_law.Goals as goal

pub returns-clause-alters : goal.returns-clause-alters
returns-clause-alters c = alters_broken

pub returns-clause-unloads : goal.returns-clause-unloads
returns-clause-unloads c = unloads_broken

pub returns-clause-refreshes_called : goal.returns-clause-refreshes_called
returns-clause-refreshes_called c = refreshes_called_broken
