use Rattle.std.proofs.Common.{arith}
use Rattle.std.proofs.lemmas.Grind.{common_steps}
use Rattle.table_state.proofs.operation.copied_ops.Goals as goal

pub loop-op-preserved : goal.loop-op-preserved
loop-op-preserved c = grind (arith, common_steps)
