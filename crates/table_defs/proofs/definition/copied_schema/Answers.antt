use Rattle.std.proofs.Common.{arith}
use Rattle.std.proofs.lemmas.Grind.{common_steps}
use Rattle.table_defs.proofs.definition.copied_schema.Goals as goal

pub loop-def-preserved : goal.loop-def-preserved
loop-def-preserved c = grind (arith, common_steps)
