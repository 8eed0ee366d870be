use Rattle.reopened_laws.proofs.EndedRuns.{flushed_leave_sites, rests_leave_sites}
use Rattle.reopened_laws.proofs.laws.answered_law.Goals as goal

pub returns-clause-flushed : goal.returns-clause-flushed
returns-clause-flushed g c = flushed_leave_sites g.P.Disk.state g.P.Disk.possible

pub returns-clause-rests : goal.returns-clause-rests
returns-clause-rests g c = rests_leave_sites g.P.Disk.state g.P.Disk.possible
