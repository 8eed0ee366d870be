use Rattle.reopened_laws.proofs.ImportLaws.{imports_leave_sites}
use Rattle.reopened_laws.proofs.laws.import_law.Goals as goal

pub returns : goal.returns
returns g c = imports_leave_sites g.P.Disk.state g.P.Disk.possible
