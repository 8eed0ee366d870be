use Rattle.std.proofs.Common.{arith}
use Rattle.std.proofs.lemmas.Grind.{common_steps}
use Rattle.long_list.proofs.list.settle.Goals as goal

pub loop-tail-preserved : goal.loop-tail-preserved
loop-tail-preserved c = grind (arith, common_steps)
