-- What is made of the conditions so far, and those that are left.
use Rattle.std.proofs.Common.{◌≡◌, ◌||◌, ◌+◌, ◌*◌, drop, take}
use Rattle.std.specs.Prelude.{Ok}
use Rattle.evaluator.specs.expressions.specs.Types.{has_sound_types}
use Rattle.sql_query.specs.Trees.{nodes_of_condition}
use Rattle.sql_query.specs.Views.{all_of, any_of}
use Rattle.resolution.specs.Literals.{unheld_within}
use Rattle.resolution.specs.Placing.{And, Or, condition_seen, placed_condition}
use Rattle.resolution.specs.Scopes.{families, shown}
use Rattle.resolution.specs.WrittenTypes.{is_sound}
use Rattle.resolution.proofs.ChainLaws.{placed_others}
use Rattle.resolution.proofs.ChainMeasures.{nodes_of_others}
use Rattle.resolution.proofs.placing.+place_condition.Given as goal

abbrev pub decreases-place_condition : goal.decreases-place_condition
decreases-place_condition l = 2 * nodes_of_condition l.condition.now

abbrev pub decreases-place_all : goal.decreases-place_all
decreases-place_all l = 2 * (nodes_of_condition l.first.now + nodes_of_others l.others.now) + 1

abbrev pub decreases-place_any : goal.decreases-place_any
decreases-place_any l = 2 * (nodes_of_condition l.first.now + nodes_of_others l.others.now) + 1

abbrev pub invariant-place_all-loop-other : goal.invariant-place_all-loop-other
invariant-place_all-loop-other l = record {
  placed : placed_condition (shown l.scope) (all_of l.first l.others) ≡ placed_others And (shown l.scope) (Ok (condition_seen l.placed)) (drop l.other-index l.others);
  typed : has_sound_types l.placed (families (shown l.scope)) ≡ is_sound (shown l.scope) (all_of l.first (take l.other-index l.others));
  held : l.unheld ≡ l.fn.unheld || unheld_within (all_of l.first (take l.other-index l.others));
}

abbrev pub invariant-place_any-loop-other : goal.invariant-place_any-loop-other
invariant-place_any-loop-other l = record {
  placed : placed_condition (shown l.scope) (any_of l.first l.others) ≡ placed_others Or (shown l.scope) (Ok (condition_seen l.placed)) (drop l.other-index l.others);
  typed : has_sound_types l.placed (families (shown l.scope)) ≡ is_sound (shown l.scope) (any_of l.first (take l.other-index l.others));
  held : l.unheld ≡ l.fn.unheld || unheld_within (any_of l.first (take l.other-index l.others));
}
