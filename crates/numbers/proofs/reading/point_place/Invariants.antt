-- No point stands before the place.
use Rattle.std.proofs.Common.{◌≡◌, ◌+◌, ◌-◌, ◌≤◌, length, drop}
use Rattle.numbers.specs.NumberTexts.{point_place}
use Rattle.numbers.proofs.reading.point_place.Given as goal

abbrev pub invariant-loop-place : goal.invariant-loop-place
invariant-loop-place l = record {
  value : point_place l.digits ≡ l.place + point_place (drop l.place l.digits);
  bound : l.place ≤ length l.digits;
}

abbrev pub decreases-loop-place : goal.decreases-loop-place
decreases-loop-place l = length l.digits - l.place
