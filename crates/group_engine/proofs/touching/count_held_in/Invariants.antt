-- Of the rows so far those that match are counted.
use Rattle.std.proofs.Common.{◌≡◌, List, filter, length, take}
use Rattle.std.specs.FinMap.{entries}
use Rattle.row_types.specs.declared.value.Value.{Value}
use Rattle.group_engine.specs.Touching.{is_held_match}
use Rattle.group_engine.proofs.touching.count_held_in.Given as goal

abbrev pub invariant-loop-place : goal.invariant-loop-place
invariant-loop-place l = l.count ≡ length (filter (λ (e : List Value × List Value). is_held_match l.which l.store l.hidden.table e.0 e.1) (take l.place (entries l.rows)))
