use Rattle.reopened_laws.proofs.EndedRuns.{runs_leave_sites}
use Rattle.reopened_laws.proofs.laws.program_law.Goals as goal

pub returns : goal.returns
returns g c = runs_leave_sites g.P.Disk.state g.P.Disk.possible
