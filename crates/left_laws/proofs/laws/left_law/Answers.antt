use Rattle.left_laws.proofs.LeftWorlds.{goes_on, waits}
use Rattle.left_laws.proofs.laws.left_law.Goals as goal

pub returns-clause-goes_on : goal.returns-clause-goes_on
returns-clause-goes_on c = goes_on

pub returns-clause-later : goal.returns-clause-later
returns-clause-later c = waits
