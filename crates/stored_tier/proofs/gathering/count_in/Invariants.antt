-- Of the rows so far those that match are counted.
use Rattle.std.proofs.Common.{◌≡◌, List, filter, length, take}
use Rattle.std.specs.FinMap.{entries}
use Rattle.row_types.specs.declared.value.Value.{Value}
use Rattle.stored_tier.specs.Choosing.{matches_at}
use Rattle.stored_tier.proofs.gathering.count_in.Given as goal

abbrev pub invariant-loop-place : goal.invariant-loop-place
invariant-loop-place l = l.count ≡ length (filter (λ (e : List Value × List Value). matches_at l.which e.0 e.1) (take l.place (entries l.rows)))
