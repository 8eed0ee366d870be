-- On none of the rows so far it is 120.
use Rattle.std.proofs.Common.{◌≡◌, false, is_none, take}
use Rattle.std.specs.List.{list_any}
use Rattle.std.specs.FinMap.{values}
use Rattle.evaluator.specs.Writes.{selects}
use Rattle.stored_tier.proofs.gathering.overflows_on.Given as goal

abbrev pub invariant-loop-place : goal.invariant-loop-place
invariant-loop-place l = list_any (λ row. is_none (selects l.which.filter row)) (take l.place (values l.rows)) ≡ false
