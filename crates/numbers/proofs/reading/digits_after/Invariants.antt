-- The digits that are left say the rest.
use Rattle.std.proofs.Common.{◌≡◌, ◌≤◌, ◌^◌, drop, min}
use Rattle.std.specs.Str.Parse.{digits_value_after}
use Rattle.numbers.proofs.reading.digits_after.Given as goal

abbrev pub invariant-loop-digit : goal.invariant-loop-digit
invariant-loop-digit l = record {
  rest : min (digits_value_after 10 l.initial.number l.digits) (2 ^ 64) ≡ min (digits_value_after 10 l.number (drop l.digit-index l.digits)) (2 ^ 64);
  limit : l.number ≤ 2 ^ 64;
}
