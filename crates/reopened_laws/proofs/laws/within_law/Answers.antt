use Rattle.reopened_laws.proofs.ProgramLaws.{runs_are_safe}
use Rattle.reopened_laws.proofs.UnopenedLaws.{unopened_imports_are_safe, unopened_runs_are_safe}
use Rattle.reopened_laws.proofs.WithinLaws.{broken_ends_are_safe, broken_lines_are_safe, flushed_are_safe, imports_are_safe, rests_are_safe}
use Rattle.reopened_laws.proofs.laws.within_law.Goals as goal

pub returns-clause-flushed : goal.returns-clause-flushed
returns-clause-flushed g c = flushed_are_safe g.P.Disk.state g.P.Disk.possible

pub returns-clause-rests : goal.returns-clause-rests
returns-clause-rests g c = rests_are_safe g.P.Disk.state g.P.Disk.possible

pub returns-clause-program : goal.returns-clause-program
returns-clause-program g c = runs_are_safe g.P.Disk.state g.P.Disk.possible

pub returns-clause-broken : goal.returns-clause-broken
returns-clause-broken g c = broken_lines_are_safe g.P.Disk.state g.P.Disk.possible

pub returns-clause-unflushed : goal.returns-clause-unflushed
returns-clause-unflushed g c = broken_ends_are_safe g.P.Disk.state g.P.Disk.possible

pub returns-clause-imports : goal.returns-clause-imports
returns-clause-imports g c = imports_are_safe g.P.Disk.state g.P.Disk.possible

pub returns-clause-unopened : goal.returns-clause-unopened
returns-clause-unopened g c = unopened_runs_are_safe g.P.Disk.state g.P.Disk.possible

pub returns-clause-unimported : goal.returns-clause-unimported
returns-clause-unimported g c = unopened_imports_are_safe g.P.Disk.state g.P.Disk.possible
