-- `clap` computes on the forms, whatever the program's name.
use Rattle.std.proofs.Common.{refl}
use Rattle.clap.proofs.OnLiterals.{clap_on_literals}
use Rattle.command_line.proofs.FormLaws.{bench_form, import_form, make_form}
use Rattle.command_line.proofs.command.forms_law.Goals as goal

pub returns-clause-run : goal.returns-clause-run
unfolding clap_on_literals
returns-clause-run c name = (refl, refl, tt)

pub returns-clause-check : goal.returns-clause-check
unfolding clap_on_literals
returns-clause-check c name = (refl, refl, tt)

pub returns-clause-import : goal.returns-clause-import
returns-clause-import c = import_form

pub returns-clause-make : goal.returns-clause-make
returns-clause-make c = make_form

pub returns-clause-bench : goal.returns-clause-bench
returns-clause-bench c = bench_form
