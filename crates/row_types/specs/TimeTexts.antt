-- The text of a time, `YYYY-MM-DD HH:MM:SS`, on the Gregorian calendar. (TimesTen SQL Reference, "Datetime literals";
-- the calendar's words are those of the crate jiff_core.)

use Rattle.std.specs.Prelude.{ℕ, zero, suc, ◌+◌, ◌*◌, ◌/◌, ◌%◌, ◌==◌, nat_le, Bool, ◌&&◌, if◌then◌else◌, List, [], ◌∷◌, ◌++◌, length, slice_index, slice_range, Option, Some, None, ℤ, pos, int_lt, ◌+ℤ◌, ◌-ℤ◌, ◌*ℤ◌, unsigned_abs}
use Rattle.std.specs.Int.{int_div_euclid, int_rem_euclid}
use Rattle.std.specs.List.{list_all}
use Rattle.std.specs.Char.{is_ascii_digit}
use Rattle.std.specs.Str.Parse.{digits_value}
use Rattle.jiff_core.specs.Calendar.{days_from_civil, days_in_month}

-- how many of the starts 1 to n have come by the day
unfoldable pub begun_by : ℤ → (ℕ → ℤ) → ℕ → ℕ
begun_by day start zero = 0
begun_by day start (suc n) = begun_by day start n + (if int_lt day (start (suc n)) then 0 else 1)

-- the year of a day, which is counted from 1970-01-01: how many of the years 1 to 9999 have begun by it
unfoldable pub year_of : ℤ → ℕ
year_of day = begun_by day (λ y. days_from_civil (pos y) 1 1) 9999

-- its month: how many of the year's months have begun by it
unfoldable pub month_of : ℤ → ℕ
month_of day = begun_by day (λ m. days_from_civil (pos (year_of day)) m 1) 12

-- its day of the month, from 1
unfoldable pub day_of : ℤ → ℕ
day_of day = unsigned_abs (day -ℤ days_from_civil (pos (year_of day)) (month_of day) 1) + 1

-- a number below 100 in two digits
abbrev pub two_digits : ℕ → List ℕ
two_digits n = (48 + n / 10) ∷ (48 + n % 10) ∷ []

-- a number below 10,000 in four
abbrev pub four_digits : ℕ → List ℕ
four_digits n = two_digits (n / 100) ++ two_digits (n % 100)

-- `YYYY-MM-DD`
abbrev pub date_text : ℕ → ℕ → ℕ → List ℕ
date_text year month day = four_digits year ++ 45 ∷ two_digits month ++ 45 ∷ two_digits day

-- `HH:MM:SS` of a second of the day
abbrev pub clock_text : ℕ → List ℕ
clock_text second = two_digits (second / 3600) ++ 58 ∷ two_digits (second / 60 % 60) ++ 58 ∷ two_digits (second % 60)

-- the day of a time, and the second of its day
abbrev pub day_number : ℤ → ℤ
day_number seconds = int_div_euclid seconds (pos 86400)

abbrev pub second_of_day : ℤ → ℕ
second_of_day seconds = unsigned_abs (int_rem_euclid seconds (pos 86400))

-- the text of a time of the years 0001 to 9999, in seconds since 1970-01-01 00:00:00
unfoldable pub time_text : ℤ → List ℕ
time_text seconds =
    let day = day_number seconds in
    date_text (year_of day) (month_of day) (day_of day) ++ 32 ∷ clock_text (second_of_day seconds)

-- the calendar has this date, of the years 0001 to 9999
abbrev pub is_date : ℕ → ℕ → ℕ → Bool
is_date year month day =
    nat_le 1 year && nat_le year 9999 && nat_le 1 month && nat_le month 12 && nat_le 1 day
    && nat_le day (days_in_month (pos year) month)

-- a clock shows this time of day
abbrev pub is_clock : ℕ → ℕ → ℕ → Bool
is_clock hour minute second = nat_le hour 23 && nat_le minute 59 && nat_le second 59

-- seconds from 1970-01-01 00:00:00 to a time on a date
abbrev pub seconds_of : ℕ → ℕ → ℕ → ℕ → ℕ → ℕ → ℤ
seconds_of year month day hour minute second =
    days_from_civil (pos year) month day *ℤ pos 86400 +ℤ pos (hour * 3600 + minute * 60 + second)

-- the digits of a text from one place up to another
abbrev pub has_digits : List ℕ → ℕ → ℕ → Bool
has_digits text first last = list_all is_ascii_digit (slice_range text first last)

-- and the number that they write
abbrev pub number_in : List ℕ → ℕ → ℕ → ℕ
number_in text first last = digits_value 10 (slice_range text first last)

-- nineteen bytes, digits but for the marks between them
abbrev pub has_marks : List ℕ → Bool
has_marks text =
    length text == 19 && slice_index text 4 == 45 && slice_index text 7 == 45 && slice_index text 10 == 32
    && slice_index text 13 == 58 && slice_index text 16 == 58

abbrev pub has_numbers : List ℕ → Bool
has_numbers text =
    has_digits text 0 4 && has_digits text 5 7 && has_digits text 8 10 && has_digits text 11 13 && has_digits text 14 16
    && has_digits text 17 19

abbrev pub has_form : List ℕ → Bool
has_form text = has_marks text && has_numbers text

-- the time that these parts name
abbrev pub time_at : ℕ → ℕ → ℕ → ℕ → ℕ → ℕ → Option ℤ
time_at year month day hour minute second =
    if is_date year month day
    && is_clock hour minute second then Some (seconds_of year month day hour minute second) else None

-- the time that a text names
abbrev pub time_of : List ℕ → Option ℤ
time_of text =
    if has_form text
    then time_at (number_in text 0 4) (number_in text 5 7) (number_in text 8 10) (number_in text 11 13)
    (number_in text 14 16) (number_in text 17 19)
    else None
