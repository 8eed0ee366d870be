-- The calendar of times and their texts.
use Rattle.std.proofs.Common.{◌≡◌, ℕ, zero, suc, ◌-◌, ◌<◌, ◌≤◌, refl, ◌∷◌, ◌++◌, arith, ℤ, pos, negsuc, ◌-ℤ◌, ◌<ℤ◌, ◌≤ℤ◌, Some, unsigned_abs, int_lt, true, false, rules}
use Rattle.row_types.proofs.Cases.{by_order}
use Rattle.std.proofs.lemmas.Int.{ints, by_lt_z}
use Rattle.jiff_core.specs.Calendar.{days_from_civil, days_in_month, day_count, IsCivilDate}
use Rattle.jiff_core.proofs.CalendarLemmas.{days_from_civil-day_count, day_count-day_of_year, day_count-lt_year, day_count-lt_month, day_count-day}
use Rattle.jiff_core.proofs.MarchLemmas.{day_count-early}
use Rattle.jiff_core.proofs.SignedLemmas.{signed_arith}
use Rattle.jiff_core.specs.declared.civil.date.Date.{Date}
use Rattle.jiff_core.specs.declared.civil.time.Time.{Time}
use Rattle.jiff_core.specs.DateTime.{civil_seconds}
use Rattle.std.proofs.lemmas.Bool.Decides.{nat_tests}
use Rattle.jiff_core.proofs.DateLemmas as dates
use Rattle.row_types.specs.Times.{IsTime}
use Rattle.row_types.specs.TimeTexts.{begun_by, year_of, month_of, day_of, time_text, date_text, clock_text, day_number, second_of_day, is_date, is_clock, time_at}

-- of n starts, those up to the k-th have come
begun_by_is : (day : ℤ) (start : ℕ → ℤ) (n k : ℕ) → k ≤ n → ((i : ℕ) → 1 ≤ i → i ≤ k → start i ≤ℤ day) → ((i : ℕ) → k < i → i ≤ n → day <ℤ start i) → begun_by day start n ≡ k
unfolding begun_by
begun_by_is day start zero k le come later = omega arith
begun_by_is day start (suc n) k le come later =
    by_order k (suc n)
    (λ before.
    let beyond : day <ℤ start (suc n) = later (suc n) before (omega arith) in
    let here = begun_by_is day start n k (omega arith) come (λ i h j. later i h (omega arith)) in
    let test : int_lt day (start (suc n)) ≡ true = grind (arith, ints) in
    rw test (omega arith))
    (λ at.
    let last : k ≡ suc n = omega arith in
    let here = begun_by_is day start n n (omega arith) (λ i h j. come i h (omega arith)) (λ i h j. absurd (omega arith)) in
    let come_by : start (suc n) ≤ℤ day = come (suc n) (omega arith) (omega arith) in
    let test : int_lt day (start (suc n)) ≡ false = grind (arith, ints) in
    rw test (omega arith))

-- the first of January of the year 1
day_count-first : day_count (pos 1) 1 1 ≡ 3652791
day_count-first = day_count-early (pos 1) 10000 1 1 refl (omega arith) (omega arith) (omega arith)

first_of_year : (y i m d : ℕ) → IsCivilDate (pos y) m d → 1 ≤ i → i ≤ y → days_from_civil (pos i) 1 1 ≤ℤ days_from_civil (pos y) m d
first_of_year y i m d civil low high =
    let counts = days_from_civil-day_count (pos y) m d in
    let counts_first = days_from_civil-day_count (pos i) 1 1 in
    by_order i y
    (λ before.
    let is : IsCivilDate (pos i) 1 1 = search (rules, arith, signed_arith) in
    let less = day_count-lt_year (pos i) 1 1 (pos y) m d is civil.2.0 (omega (arith, signed_arith)) in
    omega (arith, signed_arith))
    (λ at.
    let same : i ≡ y = omega arith in
    let parts = day_count-day_of_year (pos y) m d civil.2.0 in
    rw same (omega (arith, signed_arith, days_from_civil-day_count (pos y) 1 1)))

pub year_of_is : (y m d : ℕ) → IsCivilDate (pos y) m d → 1 ≤ y → year_of (days_from_civil (pos y) m d) ≡ y
unfolding year_of
year_of_is y m d civil low =
    begun_by_is (days_from_civil (pos y) m d) (λ i. days_from_civil (pos i) 1 1) 9999 y
    (omega (arith, signed_arith, civil.0))
    (λ i h j. first_of_year y i m d civil h j)
    (λ i h j.
    let less = day_count-lt_year (pos y) m d (pos i) 1 1 civil (omega arith) (omega (arith, signed_arith)) in
    omega (arith, signed_arith, days_from_civil-day_count (pos y) m d, days_from_civil-day_count (pos i) 1 1))

pub month_of_is : (y m d : ℕ) → IsCivilDate (pos y) m d → 1 ≤ y → month_of (days_from_civil (pos y) m d) ≡ m
unfolding month_of
month_of_is y m d civil low =
    rw (year_of_is y m d civil low)
    (begun_by_is (days_from_civil (pos y) m d) (λ i. days_from_civil (pos y) i 1) 12 m
    civil.1.1
    (λ i h j. by_order i m
    (λ before.
    let less = day_count-lt_month (pos y) i 1 m d (civil.0, (h, omega arith), search (rules, arith)) civil.2.0 before in
    omega (arith, signed_arith, days_from_civil-day_count (pos y) m d, days_from_civil-day_count (pos y) i 1))
    (λ at.
    let same : i ≡ m = omega arith in
    let day = day_count-day (pos y) m d 1 civil.2.0 (omega arith) in
    rw same (omega (arith, signed_arith, days_from_civil-day_count (pos y) m d, days_from_civil-day_count (pos y) m 1))))
    (λ i h j.
    let less = day_count-lt_month (pos y) m d i 1 civil (omega arith) h in
    omega (arith, signed_arith, days_from_civil-day_count (pos y) m d, days_from_civil-day_count (pos y) i 1)))

pub day_of_is : (y m d : ℕ) → IsCivilDate (pos y) m d → 1 ≤ y → day_of (days_from_civil (pos y) m d) ≡ d
unfolding day_of
day_of_is y m d civil low =
    let day = day_count-day (pos y) m d 1 civil.2.0 (omega arith) in
    let after : days_from_civil (pos y) m d -ℤ days_from_civil (pos y) m 1 ≡ pos (d - 1) = omega (arith, signed_arith, days_from_civil-day_count (pos y) m d, days_from_civil-day_count (pos y) m 1, civil.2.0) in
    rw (year_of_is y m d civil low, month_of_is y m d civil low, after) (omega (arith, civil.2.0))

-- a time's text by the date of its day
pub time_text_parts : (seconds : ℤ) (y m d : ℕ) → IsCivilDate (pos y) m d → 1 ≤ y → days_from_civil (pos y) m d ≡ day_number seconds → time_text seconds ≡ date_text y m d ++ 32 ∷ clock_text (second_of_day seconds)
unfolding time_text
time_text_parts seconds y m d civil low e =
    rw (← e, year_of_is y m d civil low, month_of_is y m d civil low, day_of_is y m d civil low) refl

-- the day of a time of the years 0001 to 9999
pub day_number_range : (seconds : ℤ) → IsTime seconds → (negsuc 719161 ≤ℤ day_number seconds) × (day_number seconds ≤ℤ pos 2932896)
day_number_range seconds is = omega (arith, signed_arith, is.first, is.last)

-- no date before the year 1 is so late
pub year_is_positive : (date : Date) → negsuc 719161 ≤ℤ days_from_civil date.year date.month date.day → pos 1 ≤ℤ date.year
year_is_positive date late =
    let is = dates.civil date in
    by_lt_z date.year (pos 1)
    (λ before.
    let less = day_count-lt_year date.year date.month date.day (pos 1) 1 1 is (omega arith) before in
    absurd (omega (arith, signed_arith, days_from_civil-day_count date.year date.month date.day, day_count-first)))
    (λ after. after)

-- a time's text by the parts of a date
pub date_time_text : (seconds : ℤ) (date : Date) (year : ℕ) → days_from_civil date.year date.month date.day ≡ day_number seconds → date.year ≡ pos year → 1 ≤ year → time_text seconds ≡ date_text year date.month date.day ++ 32 ∷ clock_text (second_of_day seconds)
date_time_text seconds date year day is low =
    let civil : IsCivilDate (pos year) date.month date.day = rw is at (dates.civil date) in
    let of_day : days_from_civil (pos year) date.month date.day ≡ day_number seconds = rw is at day in
    time_text_parts seconds year date.month date.day civil low of_day

-- a positive number as a natural one
pub positive : (z : ℤ) → pos 1 ≤ℤ z → z ≡ pos (unsigned_abs z)
positive (pos n) low = refl
positive (negsuc n) low = absurd (omega (arith, ints))

-- the test of a date says what it names
pub date_test : (y m d : ℕ) → is_date y m d ≡ true → (1 ≤ y) × (y ≤ 9999) × (1 ≤ m) × (m ≤ 12) × (1 ≤ d) × (d ≤ days_in_month (pos y) m)
date_test y m d h = grind (arith, nat_tests)

-- the time on a date is one of the years 0001 to 9999
pub date_is_time : (date : Date) (time : Time) (year : ℕ) → date.year ≡ pos year → 1 ≤ year → IsTime (civil_seconds (record { date = date; time = time }))
unfolding civil_seconds
date_is_time date time year is low =
    let civil : IsCivilDate (pos year) date.month date.day = rw is at (dates.civil date) in
    let early : days_from_civil (pos 1) 1 1 ≤ℤ days_from_civil date.year date.month date.day = rw is (first_of_year year 1 date.month date.day civil (omega arith) low) in
    let last = dates.epoch_day_range date in
    record {
      first = omega (arith, signed_arith, day_count-first, days_from_civil-day_count (pos 1) 1 1, last.1, time.hour_in, time.minute_in, time.second_in);
      last = omega (arith, signed_arith, last.1, time.hour_in, time.minute_in, time.second_in);
    }

pub time_at_is : (date : Date) (time : Time) (y m d h mi s : ℕ) → is_date y m d ≡ true → date.year ≡ pos y → date.month ≡ m → date.day ≡ d → is_clock h mi s ≡ true → time.hour ≡ h → time.minute ≡ mi → time.second ≡ s → time_at y m d h mi s ≡ Some (civil_seconds (record { date = date; time = time }))
unfolding civil_seconds
time_at_is date time y m d h mi s date_is year month day clock_is hour minute second =
    rw (date_is, clock_is, year, month, day, hour, minute, second)
