-- The calendar's date and the clock's time of numbers, for the code that makes them.

use Rattle.std.specs.Prelude.{ℕ, true, false, ◌≡◌, Option, Some, None, pos}
use Rattle.jiff_core.specs.declared.civil.date.Date.{Date}
use Rattle.jiff_core.specs.declared.civil.time.Time.{Time}
use Rattle.row_types.specs.TimeTexts.{is_date, is_clock}

-- the calendar's date of this year, month and day
abbrev pub IsDateAt : ℕ → ℕ → ℕ → Option Date → Type 0
IsDateAt year month day None = is_date year month day ≡ false
IsDateAt year month day (Some date) =
    (is_date year month day ≡ true) × (date.year ≡ pos year) × (date.month ≡ month) × (date.day ≡ day)

-- the clock's time of this hour, minute and second
abbrev pub IsClockAt : ℕ → ℕ → ℕ → Option Time → Type 0
IsClockAt hour minute second None = is_clock hour minute second ≡ false
IsClockAt hour minute second (Some time) =
    (is_clock hour minute second ≡ true) × (time.hour ≡ hour) × (time.minute ≡ minute) × (time.second ≡ second)
    × (time.subsec_nanosecond ≡ 0)
