-- With the conditions that are left the copy is the whole.
use Rattle.std.proofs.Common.{◌≡◌, ◌+◌, ◌*◌, drop}
use Rattle.expressions.specs.Trees.{nodes_of_condition}
use Rattle.expressions.specs.Views.{all_of, any_of}
use Rattle.expressions.proofs.ChainMeasures.{depth_of_list}
use Rattle.expressions.proofs.+copied_condition.Given as goal

abbrev pub invariant-copies::copied_all-loop-cond : goal.invariant-copies::copied_all-loop-cond
invariant-copies::copied_all-loop-cond l = all_of l.first l.others ≡ all_of l.copy (drop l.cond-index l.others)

abbrev pub invariant-copies::copied_any-loop-cond : goal.invariant-copies::copied_any-loop-cond
invariant-copies::copied_any-loop-cond l = any_of l.first l.others ≡ any_of l.copy (drop l.cond-index l.others)

abbrev pub decreases-condition::Cond::copied : goal.decreases-condition::Cond::copied
decreases-condition::Cond::copied l = 2 * nodes_of_condition l.self.now + 1

abbrev pub decreases-copies::copied_all : goal.decreases-copies::copied_all
decreases-copies::copied_all l = 2 * depth_of_list l.first.now l.others.now

abbrev pub decreases-copies::copied_any : goal.decreases-copies::copied_any
decreases-copies::copied_any l = 2 * depth_of_list l.first.now l.others.now
