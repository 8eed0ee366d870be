use Rattle.reopened_laws.proofs.CrashLaws.{crashes_leave_sites}
use Rattle.reopened_laws.proofs.laws.crash_law.Goals as goal

pub returns : goal.returns
returns g c = crashes_leave_sites g.P.Disk.state g.P.Disk.possible
