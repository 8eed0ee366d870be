use Rattle.line_laws.proofs.GroupStatements.{alters_kept, refreshes_called, unloads_kept}
use Rattle.line_laws.proofs.laws.group_line_law.Goals as goal

pub returns-clause-alters : goal.returns-clause-alters
returns-clause-alters c = alters_kept

pub returns-clause-unloads : goal.returns-clause-unloads
returns-clause-unloads c = unloads_kept

pub returns-clause-refreshes_called : goal.returns-clause-refreshes_called
returns-clause-refreshes_called c = refreshes_called
