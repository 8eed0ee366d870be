use Rattle.print_laws.proofs.ConsoleWrites.{writes_mean}
use Rattle.print_laws.proofs.law.print_writes_law.Goals as goal

pub returns : goal.returns
returns c = writes_mean
