-- The parts are those of the day's date.
use Rattle.std.proofs.Common.{◌≡◌, ◌/◌, ◌%◌, pos, nat_abs, arith, to_z, of_z, w16}
use Rattle.jiff_core.proofs.SignedLemmas.{signed_arith}
use Rattle.row_types.specs.TimeTexts.{two_digits}
use Rattle.row_types.proofs.TimeLemmas.{date_time_text, positive}
use Rattle.row_types.proofs.time.Time.to_text.Goals as goal

pub returns : goal.returns
returns c =
    let date = c.date-date.result in
    let second = c.second_of_day-second.result in
    let year = nat_abs (to_z w16 (of_z w16 date.year)) in
    let same : to_z w16 (of_z w16 date.year) ≡ date.year = omega (arith, signed_arith, c.date-date.ensures.year) in
    let is : date.year ≡ pos year = rw same (positive date.year c.date-date.ensures.year) in
    let text = date_time_text c.args.self date year c.date-date.ensures.day is (omega (arith, signed_arith, c.date-date.ensures.year)) in
    let century : c.two_digits.result ≡ two_digits (year / 100) = c.two_digits.ensures in
    let year_of_century : c.two_digits-2.result ≡ two_digits (year % 100) = c.two_digits-2.ensures in
    let month : c.two_digits-3.result ≡ two_digits date.month = c.two_digits-3.ensures in
    let day : c.two_digits-4.result ≡ two_digits date.day = c.two_digits-4.ensures in
    let hour : c.two_digits-5.result ≡ two_digits (second / 3600) = c.two_digits-5.ensures in
    let minute : c.two_digits-6.result ≡ two_digits (second / 60 % 60) = c.two_digits-6.ensures in
    let last : c.two_digits-7.result ≡ two_digits (second % 60) = c.two_digits-7.ensures in
    rw (text, ← c.second_of_day-second.ensures.value, century, year_of_century, month, day, hour, minute, last)
