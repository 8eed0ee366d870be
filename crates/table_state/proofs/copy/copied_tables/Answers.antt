use Rattle.std.proofs.Common.{arith}
use Rattle.std.proofs.lemmas.Grind.{common_steps}
use Rattle.table_state.proofs.copy.copied_tables.Goals as goal

pub loop-rows-preserved : goal.loop-rows-preserved
loop-rows-preserved c = grind (arith, common_steps)
