-- Digits and the numbers that they write, one behind another.
use Rattle.std.proofs.Common.{◌≡◌, ℕ, zero, suc, ◌+◌, ◌-◌, ◌*◌, ◌/◌, ◌%◌, ◌^◌, ◌<◌, ◌≤◌, min, List, [], ◌∷◌, ◌++◌, true, false, nat_eq, length, drop, get_or, add-one, arith, rules, refl, ap, sym, ◌∙◌}
use Rattle.std.specs.List.{list_all}
use Rattle.std.specs.Char.{is_ascii_digit, digit_value}
use Rattle.std.specs.Str.Parse.{digits_value, digits_value_after}
use Rattle.std.proofs.Math.Nat.{div-div-eq-div-mul, pow-succ'}
use Rattle.std.proofs.Math.Seq.{drop-cons}
use Rattle.std.proofs.Math.ListN.{drop_of_length-le}
use Rattle.std.proofs.lemmas.Bool.Decides.{nat_tests}
use Rattle.std.proofs.lemmas.List.{length-append}
use Rattle.std.proofs.lemmas.List.Folds.{list_all-append}
use Rattle.std.proofs.lemmas.Str.{digit_value_digit}
use Rattle.std.proofs.lemmas.Str.Parse.{IsNumeralModel, numerals_by_value}
use Rattle.numbers.specs.NumberTexts.{last_digits, point_place}
use Rattle.numbers.proofs.Cases.{by_order}

pub numerals : IsNumeralModel (λ ds. list_all is_ascii_digit ds ≡ true) (digits_value 10)
numerals = numerals_by_value _ (search rules)

-- digits behind others
pub after_append : (n : ℕ) (xs ys : List ℕ) → digits_value_after 10 n (xs ++ ys) ≡ digits_value_after 10 (digits_value_after 10 n xs) ys
after_append n [] ys = refl
after_append n (x ∷ xs) ys = after_append (n * 10 + digit_value x) xs ys

pub after_ge : (n : ℕ) (ds : List ℕ) → n ≤ digits_value_after 10 n ds
after_ge n [] = omega arith
after_ge n (d ∷ ds) = omega (arith, after_ge (n * 10 + digit_value d) ds)

-- past a limit it stays past it
pub after_capped : (n limit : ℕ) (ds : List ℕ) → min (digits_value_after 10 n ds) limit ≡ min (digits_value_after 10 (min n limit) ds) limit
after_capped n limit ds = by_order n limit below above
  where
    below : n < limit → min (digits_value_after 10 n ds) limit ≡ min (digits_value_after 10 (min n limit) ds) limit
    below less = let same : min n limit ≡ n = omega arith in rw same

    above : limit ≤ n → min (digits_value_after 10 n ds) limit ≡ min (digits_value_after 10 (min n limit) ds) limit
    above more =
        let same : min n limit ≡ limit = omega arith in
        rw same (omega (arith, after_ge n ds, after_ge limit ds))

-- the first of the digits that are left
pub after_first : (n i : ℕ) (ds : List ℕ) → i < length ds → digits_value_after 10 n (drop i ds) ≡ digits_value_after 10 (n * 10 + digit_value (get_or ds i 0)) (drop (i + 1) ds)
after_first n i ds within = rw (add-one, drop-cons ds i 0 within)

-- the last digits of a number behind the others
pub last_digits_more : (count n : ℕ) → 0 < count → last_digits count n ≡ last_digits (count - 1) (n / 10) ++ (48 + n % 10) ∷ []
last_digits_more zero n some = absurd (omega arith)
last_digits_more (suc count) n some = let less : suc count - 1 ≡ count = omega arith in rw less

digit_value_is : (n : ℕ) → n < 10 → digit_value (48 + n) ≡ n
digit_value_is n small = omega (arith, digit_value_digit (48 + n) (omega arith, omega arith))

is_digit : (n : ℕ) → n < 10 → is_ascii_digit (48 + n) ≡ true
is_digit n small = grind (arith, nat_tests)

pub length_last : (count n : ℕ) → length (last_digits count n) ≡ count
length_last zero n = refl
length_last (suc count) n = omega (arith, length-append (last_digits count (n / 10)) ((48 + n % 10) ∷ []), length_last count (n / 10))

pub all_last : (count n : ℕ) → list_all is_ascii_digit (last_digits count n) ≡ true
all_last zero n = refl
all_last (suc count) n =
    rw (list_all-append is_ascii_digit (last_digits count (n / 10)) ((48 + n % 10) ∷ []), all_last count (n / 10), is_digit (n % 10) (omega arith))

pub after_last : (count n : ℕ) → digits_value_after 10 (n / 10 ^ count) (last_digits count n) ≡ n
after_last zero n = let one : n / 10 ^ 0 ≡ n = omega arith in one
after_last (suc count) n =
    let front : n / 10 ^ suc count ≡ n / 10 / 10 ^ count = ap (λ m. n / m) (pow-succ' 10 count) ∙ sym (div-div-eq-div-mul n 10 (10 ^ count)) in
    rw (front, after_append (n / 10 / 10 ^ count) (last_digits count (n / 10)) ((48 + n % 10) ∷ []), after_last count (n / 10), digit_value_is (n % 10) (omega arith)) (omega arith)

-- the place of the point
pub point_behind : (whole rest : List ℕ) → list_all is_ascii_digit whole ≡ true → point_place (whole ++ rest) ≡ length whole + point_place rest
point_behind [] rest all = omega arith
point_behind (b ∷ whole) rest all =
    let parts : (is_ascii_digit b ≡ true) × (list_all is_ascii_digit whole ≡ true) = grind (arith, nat_tests) in
    let other : nat_eq b 46 ≡ false = grind (arith, nat_tests, parts.0) in
    rw other (omega (arith, point_behind whole rest parts.1))

cons_not : (b : ℕ) (bytes : List ℕ) → nat_eq b 46 ≡ false → point_place (b ∷ bytes) ≡ suc (point_place bytes)
cons_not b bytes other = rw other

cons_point : (b : ℕ) (bytes : List ℕ) → nat_eq b 46 ≡ true → point_place (b ∷ bytes) ≡ 0
cons_point b bytes is = rw is

-- one byte more that is no point
pub place_more : (ds : List ℕ) (i : ℕ) → i < length ds → (get_or ds i 0 ≡ 46 → ⊥) → point_place (drop i ds) ≡ suc (point_place (drop (i + 1) ds))
place_more ds i within other =
    let test : nat_eq (get_or ds i 0) 46 ≡ false = grind (arith, nat_tests) in
    rw (add-one, drop-cons ds i 0 within) (cons_not (get_or ds i 0) (drop (suc i) ds) test)

pub place_here : (ds : List ℕ) (i : ℕ) → i < length ds → get_or ds i 0 ≡ 46 → point_place (drop i ds) ≡ 0
place_here ds i within is =
    let test : nat_eq (get_or ds i 0) 46 ≡ true = grind (arith, nat_tests) in
    rw (drop-cons ds i 0 within) (cons_point (get_or ds i 0) (drop (suc i) ds) test)

pub place_past : (ds : List ℕ) (i : ℕ) → length ds ≤ i → point_place (drop i ds) ≡ 0
place_past ds i past = rw (drop_of_length-le ds past)
