-- The day is none before the year 1.
use Rattle.std.proofs.Common.{arith, ◌≤ℤ◌, negsuc}
use Rattle.jiff_core.specs.Date.{epoch_day}
use Rattle.jiff_core.proofs.SignedLemmas.{signed_arith}
use Rattle.row_types.proofs.TimeLemmas.{day_number_range, year_is_positive}
use Rattle.row_types.proofs.time.Time.date.Goals as goal

pub returns-clause-year : goal.returns-clause-year
returns-clause-year c =
    let range = day_number_range c.self.inside.seconds c.self.invariant in
    let late : negsuc 719161 ≤ℤ epoch_day c.from_days_since_min.result = omega (arith, signed_arith, c.div_euclid-day.ensures, c.from_days_since_min.ensures, range.0) in
    year_is_positive c.from_days_since_min.result late
