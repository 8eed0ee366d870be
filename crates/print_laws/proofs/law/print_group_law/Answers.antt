use Rattle.sql_print.specs.sql_subset.specs.declared.stmt.Stmt.TheVariants as v
use Rattle.print_laws.proofs.StatementReading.{statement_spelt}
use Rattle.print_laws.proofs.Statements.{group_spells}
use Rattle.print_laws.proofs.law.print_group_law.Goals as goal

pub returns : goal.returns
returns c bytes g h = group_spells g (statement_spelt bytes (v.CreateGroup g) h)
