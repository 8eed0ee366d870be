use Rattle.std.proofs.Common.{arith}
use Rattle.std.proofs.lemmas.Grind.{common_steps}
use Rattle.evaluator.proofs.cascade.children_of.Goals as goal

pub loop-def-preserved : goal.loop-def-preserved
loop-def-preserved c = grind (arith, common_steps)
