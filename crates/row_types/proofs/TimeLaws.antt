-- The text of a time names it.
use Rattle.std.proofs.Common.{◌≡◌, ℕ, ◌+◌, ◌*◌, ◌/◌, ◌%◌, ◌<◌, ◌≤◌, List, [], ◌∷◌, ◌++◌, Bool, nat_le, true, ◌&&◌, cond, length, take, get_or, refl, ap, ◌∙◌, arith, ℤ, pos, ◌≤ℤ◌, unsigned_abs, Some, codes}
use Rattle.std.specs.List.{list_all}
use Rattle.std.specs.Char.{is_ascii_digit, digit_value}
use Rattle.std.specs.Str.Parse.{digits_value}
use Rattle.std.proofs.lemmas.Bool.Decides.{nat_tests}
use Rattle.std.proofs.lemmas.List.{length-append}
use Rattle.std.proofs.Math.Seq.{take-append_seam, get_or-append_seam}
use Rattle.std.proofs.lemmas.Str.{digit_value_digit}
use Rattle.jiff_core.specs.Calendar.{days_from_civil, IsCivilDate}
use Rattle.jiff_core.specs.declared.civil.date.Date.{Date}
use Rattle.jiff_core.proofs.CalendarLemmas.{days_in_month_bounds}
use Rattle.jiff_core.proofs.DateLemmas as dates
use Rattle.jiff_core.proofs.SignedLemmas.{signed_arith}
use Rattle.row_types.specs.declared.value.Value.TheVariants.{Time}
use Rattle.row_types.specs.Literals.{value_of}
use Rattle.row_types.specs.TimeTexts.{time_text, time_of, time_at, date_text, two_digits, four_digits, day_number, second_of_day, has_form, number_in, is_date, is_clock, seconds_of}
use Rattle.row_types.proofs.TimeLemmas.{date_time_text, positive}

digit_is : (k : ℕ) → k < 10 → is_ascii_digit (48 + k) ≡ true
digit_is k small = grind (arith, nat_tests)

digit_gives : (k : ℕ) → k < 10 → digit_value (48 + k) ≡ k
digit_gives k small = omega (arith, digit_value_digit (48 + k) (omega arith))

two_are : (n : ℕ) → n < 100 → list_all is_ascii_digit (two_digits n) ≡ true
two_are n small = rw (digit_is (n / 10) (omega arith), digit_is (n % 10) (omega arith))

two_give : (n : ℕ) → n < 100 → digits_value 10 (two_digits n) ≡ n
two_give n small = rw (digit_gives (n / 10) (omega arith), digit_gives (n % 10) (omega arith)) (omega arith)

four_are : (n : ℕ) → n < 10000 → list_all is_ascii_digit (four_digits n) ≡ true
four_are n small =
    rw (digit_is (n / 100 / 10) (omega arith), digit_is (n / 100 % 10) (omega arith), digit_is (n % 100 / 10) (omega arith), digit_is (n % 100 % 10) (omega arith))

four_give : (n : ℕ) → n < 10000 → digits_value 10 (four_digits n) ≡ n
four_give n small =
    rw (digit_gives (n / 100 / 10) (omega arith), digit_gives (n / 100 % 10) (omega arith), digit_gives (n % 100 / 10) (omega arith), digit_gives (n % 100 % 10) (omega arith)) (omega arith)

all_six : (a b c d e f : Bool) → a ≡ true → b ≡ true → c ≡ true → d ≡ true → e ≡ true → f ≡ true → a && b && c && d && e && f ≡ true
all_six a b c d e f p q r s t u = rw (p, q, r, s, t, u)

taken : {X : Type 0} (b : Bool) (x y : X) → b ≡ true → cond b x y ≡ x
taken b x y is = rw is

-- the parts of a text are read back
written : (y m d h mi s : ℕ) → y < 10000 → m < 100 → d < 100 → h < 100 → mi < 100 → s < 100 → time_of (date_text y m d ++ 32 ∷ (two_digits h ++ 58 ∷ two_digits mi ++ 58 ∷ two_digits s)) ≡ time_at y m d h mi s
written y m d h mi s y_in m_in d_in h_in mi_in s_in =
    let text : List ℕ = date_text y m d ++ 32 ∷ (two_digits h ++ 58 ∷ two_digits mi ++ 58 ∷ two_digits s) in
    let form : has_form text ≡ true = all_six _ _ _ _ _ _ (four_are y y_in) (two_are m m_in) (two_are d d_in) (two_are h h_in) (two_are mi mi_in) (two_are s s_in) in
    let year : number_in text 0 4 ≡ y = four_give y y_in in
    let month : number_in text 5 7 ≡ m = two_give m m_in in
    let day : number_in text 8 10 ≡ d = two_give d d_in in
    let hour : number_in text 11 13 ≡ h = two_give h h_in in
    let minute : number_in text 14 16 ≡ mi = two_give mi mi_in in
    let second : number_in text 17 19 ≡ s = two_give s s_in in
    taken _ _ _ form ∙ (λ i. time_at (year i) (month i) (day i) (hour i) (minute i) (second i))

within : (a b : ℕ) → a ≤ b → nat_le a b ≡ true
within a b h = grind (arith, nat_tests)

all_three : (a b c : Bool) → a ≡ true → b ≡ true → c ≡ true → a && b && c ≡ true
all_three a b c p q r = rw (p, q, r)

-- the time of a date and a second of its day
time_at_parts : (y m d n : ℕ) (seconds : ℤ) → IsCivilDate (pos y) m d → 1 ≤ y → days_from_civil (pos y) m d ≡ day_number seconds → n ≡ second_of_day seconds → n < 86400 → time_at y m d (n / 3600) (n / 60 % 60) (n % 60) ≡ Some seconds
time_at_parts y m d n seconds civil low day second small =
    let last : y ≤ 9999 = omega (arith, signed_arith, civil.0) in
    let date : is_date y m d ≡ true = all_six _ _ _ _ _ _ (within 1 y low) (within y 9999 last) (within 1 m civil.1.0) (within m 12 civil.1.1) (within 1 d civil.2.0) (within d _ civil.2.1) in
    let clock : is_clock (n / 3600) (n / 60 % 60) (n % 60) ≡ true = all_three _ _ _ (within (n / 3600) 23 (omega arith)) (within (n / 60 % 60) 59 (omega arith)) (within (n % 60) 59 (omega arith)) in
    let whole : n / 3600 * 3600 + n / 60 % 60 * 60 + n % 60 ≡ n = omega arith in
    let sum : seconds_of y m d (n / 3600) (n / 60 % 60) (n % 60) ≡ seconds = omega (arith, signed_arith, day, second, whole) in
    rw (date, clock) (ap Some sum)

pub text_is_of : (seconds : ℤ) (date : Date) → days_from_civil date.year date.month date.day ≡ day_number seconds → pos 1 ≤ℤ date.year → time_of (time_text seconds) ≡ Some seconds
text_is_of seconds date day low =
    let year = unsigned_abs date.year in
    let is : date.year ≡ pos year = positive date.year low in
    let civil : IsCivilDate (pos year) date.month date.day = rw is at (dates.civil date) in
    let of_day : days_from_civil (pos year) date.month date.day ≡ day_number seconds = rw is at day in
    let first : 1 ≤ year = omega (arith, signed_arith, is, low) in
    let month : date.month < 100 = omega (arith, civil.1.1) in
    let day_in : date.day < 100 = omega (arith, civil.2.1, days_in_month_bounds (pos year) date.month) in
    let n = second_of_day seconds in
    let small : n < 86400 = omega (arith, signed_arith) in
    ap time_of (date_time_text seconds date year day is first)
    ∙ written year date.month date.day (n / 3600) (n / 60 % 60) (n % 60) (omega (arith, signed_arith, civil.0)) month day_in (omega arith) (omega arith) (omega arith)
    ∙ time_at_parts year date.month date.day n seconds civil first of_day refl small

-- a text of nineteen bytes in a literal
pub time_literal : (text : List ℕ) (seconds : ℤ) → length text ≡ 19 → time_of text ≡ Some seconds → value_of (codes "TIMESTAMP '" ++ text ++ codes "'") ≡ Some (Time seconds)
time_literal text seconds long is =
    let all : length (text ++ 39 ∷ []) ≡ 20 = omega (arith, length-append text (39 ∷ [])) in
    let last : get_or (text ++ 39 ∷ []) 19 0 ≡ 39 = rw long at (get_or-append_seam text 39 [] 0) in
    let front : take 19 (text ++ 39 ∷ []) ≡ text = rw long at (take-append_seam text (39 ∷ [])) in
    rw (all, last, front, is)

-- a time's text has nineteen bytes
has_nineteen : (seconds : ℤ) → length (time_text seconds) ≡ 19
unfolding time_text
has_nineteen seconds = refl

pub literal_is_of : (seconds : ℤ) (date : Date) → days_from_civil date.year date.month date.day ≡ day_number seconds → pos 1 ≤ℤ date.year → value_of (codes "TIMESTAMP '" ++ time_text seconds ++ codes "'") ≡ Some (Time seconds)
literal_is_of seconds date day low = time_literal (time_text seconds) seconds (has_nineteen seconds) (text_is_of seconds date day low)
