use Rattle.run_laws.proofs.RunKeeps.{run_kept, survives}
use Rattle.run_laws.proofs.laws.run_law.Goals as goal

pub returns-clause-survives : goal.returns-clause-survives
returns-clause-survives c = survives

pub returns-clause-keeps_through : goal.returns-clause-keeps_through
returns-clause-keeps_through c = run_kept
