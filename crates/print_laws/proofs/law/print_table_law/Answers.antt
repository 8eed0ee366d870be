use Rattle.print_laws.proofs.Definitions.{table_means}
use Rattle.print_laws.proofs.law.print_table_law.Goals as goal

pub returns : goal.returns
returns c = table_means
