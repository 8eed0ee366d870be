-- None of the conditions so far gives one.
use Rattle.std.proofs.Common.{◌≡◌, ◌+◌, ◌*◌, None, drop}
use Rattle.cache_tier.specs.Wants.{conjuncts, given_in}
use Rattle.expressions.proofs.ChainMeasures.{depth_of_list}
use Rattle.expressions.specs.Trees.{nodes_of_condition}
use Rattle.expressions.specs.Views.{all_of}
use Rattle.resolution.specs.Placing.{condition_seen}
use Rattle.statement_uses.proofs.WantLaws.{given_from}
use Rattle.statement_uses.proofs.wanting.+given_in.Given as goal

abbrev pub invariant-given_in_all-loop-cond : goal.invariant-given_in_all-loop-cond
invariant-given_in_all-loop-cond l =
    given_in l.place (conjuncts (condition_seen (all_of l.first l.others)))
    ≡ given_from l.place None (drop l.cond-index l.others)

abbrev pub decreases-given_in : goal.decreases-given_in
decreases-given_in l = 2 * nodes_of_condition l.cond.now + 1

abbrev pub decreases-given_in_all : goal.decreases-given_in_all
decreases-given_in_all l = 2 * depth_of_list l.first.now l.others.now
