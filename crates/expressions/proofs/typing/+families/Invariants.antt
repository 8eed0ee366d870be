-- What the steps that are left make of the family so far.
use Rattle.std.proofs.Common.{◌≡◌, ◌+◌, ◌*◌, drop}
use Rattle.expressions.specs.Types.{family_of}
use Rattle.expressions.specs.Views.{chained}
use Rattle.expressions.specs.Trees.{nodes_of_expression}
use Rattle.expressions.proofs.ChainMeasures.{depth_of_chain}
use Rattle.expressions.proofs.FoldLaws.{family_from}
use Rattle.expressions.proofs.typing.+families.Given as goal

abbrev pub invariant-chain_family-loop-step : goal.invariant-chain_family-loop-step
invariant-chain_family-loop-step l =
    family_of (chained l.first l.steps) l.columns ≡ family_from l.family (drop l.step-index l.steps) l.columns

abbrev pub decreases-family_of : goal.decreases-family_of
decreases-family_of l = 2 * nodes_of_expression l.expr.now + 1

abbrev pub decreases-chain_family : goal.decreases-chain_family
decreases-chain_family l = 2 * depth_of_chain l.first.now l.steps.now
