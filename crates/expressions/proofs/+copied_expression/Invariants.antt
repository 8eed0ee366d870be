-- With the steps that are left the copy is the whole.
use Rattle.std.proofs.Common.{◌≡◌, ◌+◌, ◌*◌, drop}
use Rattle.expressions.specs.Trees.{nodes_of_expression}
use Rattle.expressions.specs.Views.{chained}
use Rattle.expressions.proofs.ChainMeasures.{depth_of_chain}
use Rattle.expressions.proofs.+copied_expression.Given as goal

abbrev pub invariant-copies::copied_chain-loop-step : goal.invariant-copies::copied_chain-loop-step
invariant-copies::copied_chain-loop-step l = chained l.first l.steps ≡ chained l.copy (drop l.step-index l.steps)

abbrev pub decreases-expression::Expr::copied : goal.decreases-expression::Expr::copied
decreases-expression::Expr::copied l = 2 * nodes_of_expression l.self.now + 1

abbrev pub decreases-copies::copied_chain : goal.decreases-copies::copied_chain
decreases-copies::copied_chain l = 2 * depth_of_chain l.first.now l.steps.now
