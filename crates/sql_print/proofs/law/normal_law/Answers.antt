use Rattle.sql_print.proofs.NormalLaws.{normal_again}
use Rattle.sql_print.proofs.law.normal_law.Goals as goal

pub returns : goal.returns
returns c = normal_again
