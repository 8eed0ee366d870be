-- The seconds of the date and the time of day.
use Rattle.std.proofs.Common.{◌≡◌, sym, Some, arith, to_z, of_z, w64}
use Rattle.jiff_core.proofs.SignedLemmas.{signed_arith}
use Rattle.row_types.specs.Times.{IsTime}
use Rattle.row_types.specs.TimeTexts.{time_at}
use Rattle.row_types.proofs.TimeLemmas.{date_is_time, time_at_is, date_test}
use Rattle.row_types.proofs.time.time_at.Goals as goal

pub invariant_of-result : goal.invariant_of-result
invariant_of-result c =
    let result = c.to_second.result in
    let back : to_z w64 (of_z w64 result) ≡ result = omega (arith, signed_arith) in
    let date = c.in_ok-date.ensures in
    let is : IsTime result = rw c.to_second.ensures.value (date_is_time c.in_ok-date.date c.in_ok-time.time c.args.year date.1 (date_test c.args.year c.args.month c.args.day date.0).0) in
    rw back is

pub returns : goal.returns
returns c =
    let result = c.to_second.result in
    let back : to_z w64 (of_z w64 result) ≡ result = omega (arith, signed_arith) in
    let date = c.in_ok-date.ensures in
    let clock = c.in_ok-time.ensures in
    let is : time_at c.args.year c.args.month c.args.day c.args.hour c.args.minute c.args.second ≡ Some result =
    rw c.to_second.ensures.value (time_at_is c.in_ok-date.date c.in_ok-time.time _ _ _ _ _ _ date.0 date.1 date.2 date.3 clock.0 clock.1 clock.2 clock.3) in
    rw back (sym is)
