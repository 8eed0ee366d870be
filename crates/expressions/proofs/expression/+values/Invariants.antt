-- What the steps that are left make of the value so far.
use Rattle.std.proofs.Common.{◌≡◌, ◌+◌, ◌*◌, Some, drop}
use Rattle.expressions.specs.Expressions.{eval}
use Rattle.expressions.specs.Operands.{shown}
use Rattle.expressions.specs.Views.{chained}
use Rattle.expressions.specs.Trees.{nodes_of_expression}
use Rattle.expressions.proofs.ChainMeasures.{depth_of_chain}
use Rattle.expressions.proofs.FoldLaws.{applied}
use Rattle.expressions.proofs.expression.+values.Given as goal

abbrev pub invariant-chain_value-loop-step : goal.invariant-chain_value-loop-step
invariant-chain_value-loop-step g l =
    eval (chained l.first l.steps) (g.C.Columns.values l.columns)
    ≡ applied (Some (shown l.value)) (drop l.step-index l.steps) (g.C.Columns.values l.columns)

abbrev pub decreases-value_of : goal.decreases-value_of
decreases-value_of g l = 2 * nodes_of_expression l.expr.now + 1

abbrev pub decreases-chain_value : goal.decreases-chain_value
decreases-chain_value g l = 2 * depth_of_chain l.first.now l.steps.now
