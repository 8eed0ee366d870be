-- All so far keep the rule, so that those that are left tell.
use Rattle.std.proofs.Common.{◌≡◌, ◌+◌, ◌*◌, true, drop}
use Rattle.expressions.specs.Types.{has_sound_types}
use Rattle.expressions.specs.Views.{all_of, any_of}
use Rattle.expressions.specs.Trees.{nodes_of_condition}
use Rattle.expressions.proofs.ChainMeasures.{depth_of_list}
use Rattle.expressions.proofs.FoldLaws.{sound_from}
use Rattle.expressions.proofs.typing.+soundness.Given as goal

abbrev pub invariant-are_sound-loop-cond : goal.invariant-are_sound-loop-cond
invariant-are_sound-loop-cond l = record {
  all : has_sound_types (all_of l.first l.others) l.columns ≡ sound_from true (drop l.cond-index l.others) l.columns;
  any : has_sound_types (any_of l.first l.others) l.columns ≡ sound_from true (drop l.cond-index l.others) l.columns;
}

abbrev pub decreases-has_sound_types : goal.decreases-has_sound_types
decreases-has_sound_types l = 2 * nodes_of_condition l.cond.now + 1

abbrev pub decreases-are_sound : goal.decreases-are_sound
decreases-are_sound l = 2 * depth_of_list l.first.now l.others.now
