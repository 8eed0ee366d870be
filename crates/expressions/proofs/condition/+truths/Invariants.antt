-- What the conditions that are left make of the truth so far.
use Rattle.std.proofs.Common.{◌≡◌, ◌+◌, ◌*◌, Some, drop}
use Rattle.expressions.specs.Conditions.{holds}
use Rattle.expressions.specs.Views.{all_of, any_of}
use Rattle.expressions.specs.Trees.{nodes_of_condition}
use Rattle.expressions.proofs.ChainMeasures.{depth_of_list}
use Rattle.expressions.proofs.FoldLaws.{all_from, any_from}
use Rattle.expressions.proofs.condition.+truths.Given as goal

abbrev pub invariant-all_hold-loop-cond : goal.invariant-all_hold-loop-cond
invariant-all_hold-loop-cond g l =
    holds (all_of l.first l.others) (g.C.Columns.values l.columns)
    ≡ all_from (Some l.truth) (drop l.cond-index l.others) (g.C.Columns.values l.columns)

abbrev pub invariant-one_holds-loop-cond : goal.invariant-one_holds-loop-cond
invariant-one_holds-loop-cond g l =
    holds (any_of l.first l.others) (g.C.Columns.values l.columns)
    ≡ any_from (Some l.truth) (drop l.cond-index l.others) (g.C.Columns.values l.columns)

abbrev pub decreases-truth_on : goal.decreases-truth_on
decreases-truth_on g l = 2 * nodes_of_condition l.cond.now + 1

abbrev pub decreases-all_hold : goal.decreases-all_hold
decreases-all_hold g l = 2 * depth_of_list l.first.now l.others.now

abbrev pub decreases-one_holds : goal.decreases-one_holds
decreases-one_holds g l = 2 * depth_of_list l.first.now l.others.now
