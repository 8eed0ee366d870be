-- What is printed is read back.
use Rattle.std.proofs.Common.{◌≡◌, ℕ, zero, suc, ◌+◌, ◌/◌, ◌^◌, ◌<◌, ◌≤◌, List, [], ◌∷◌, ◌++◌, true, false, nat_eq, nat_lt, length, take, drop, get_or, arith, refl, ap, sym, ◌∙◌, ℤ, pos, negsuc, Some}
use Rattle.std.specs.Fmt.{decimal}
use Rattle.std.specs.List.{list_all}
use Rattle.std.specs.Char.{is_ascii_digit}
use Rattle.std.specs.Str.Parse.{digits_value, digits_value_after}
use Rattle.std.proofs.Math.ListN.{get_or-append}
use Rattle.std.proofs.Math.Nat.{div-le_self}
use Rattle.std.proofs.Math.Seq.{take-append_seam, drop-append-add}
use Rattle.std.proofs.lemmas.Bool.Decides.{nat_tests}
use Rattle.std.proofs.lemmas.Fmt.{decimal_is_IsNumeral_wide}
use Rattle.std.proofs.lemmas.Int.{ints}
use Rattle.std.proofs.lemmas.List.{length-append}
use Rattle.std.proofs.lemmas.Str.Parse.{digit_at}
use Rattle.numbers.specs.Decimals.{Decimal, IsNumber, number_of}
use Rattle.numbers.specs.NumberTexts.{are_decimal_digits, fraction_digits, is_negative, last_digits, number_read, point_place, printed_fraction, printed_magnitude, printed_number, printed_units, units_in}
use Rattle.numbers.proofs.Digits.{after_append, after_last, all_last, length_last, numerals, point_behind}
use Rattle.numbers.proofs.Rescaling.{number_is}

-- digits before a point and digits behind it
record ArePrinted (bytes : List ℕ) (scale units : ℕ) : Type 0 where
  are : are_decimal_digits bytes ≡ true
  value : units_in bytes ≡ units
  behind : length (fraction_digits bytes) ≡ scale
  plain : is_negative bytes ≡ false

plain_first : (whole rest : List ℕ) → 0 < length whole → list_all is_ascii_digit whole ≡ true → is_negative (whole ++ rest) ≡ false
plain_first whole rest some all =
    let first = digit_at whole 0 (numerals.to whole all) some in
    let same : get_or (whole ++ rest) 0 0 ≡ get_or whole 0 0 = get_or-append whole rest 0 0 some in
    rw same (grind (arith, nat_tests, first.0))

with_point : (whole fraction : List ℕ) → 0 < length whole → 0 < length fraction → list_all is_ascii_digit whole ≡ true → list_all is_ascii_digit fraction ≡ true → ArePrinted (whole ++ 46 ∷ fraction) (length fraction) (digits_value_after 10 (digits_value 10 whole) fraction)
with_point whole fraction some more all all_behind =
    let place : point_place (whole ++ 46 ∷ fraction) ≡ length whole = omega (arith, point_behind whole (46 ∷ fraction) all) in
    let long : length (whole ++ 46 ∷ fraction) ≡ length whole + suc (length fraction) = length-append whole (46 ∷ fraction) in
    let front : take (length whole) (whole ++ 46 ∷ fraction) ≡ whole = take-append_seam whole (46 ∷ fraction) in
    let back : drop (length whole + 1) (whole ++ 46 ∷ fraction) ≡ fraction = drop-append-add whole (46 ∷ fraction) 1 in
    let test : nat_lt 0 (length whole) ≡ true = grind (arith, nat_tests) in
    let apart : nat_eq (length whole + 1) (length whole + suc (length fraction)) ≡ false = grind (arith, nat_tests) in
    record {
      are = rw (place, long, front, back, test, apart, all, all_behind);
      value = rw (place, front, back) (after_append 0 whole fraction);
      behind = rw (place, back);
      plain = plain_first whole (46 ∷ fraction) some all;
    }

without_point : (whole : List ℕ) → 0 < length whole → list_all is_ascii_digit whole ≡ true → ArePrinted (whole ++ []) 0 (digits_value 10 whole)
without_point whole some all =
    let place : point_place (whole ++ []) ≡ length whole = omega (arith, point_behind whole [] all) in
    let long : length (whole ++ []) ≡ length whole = omega (arith, length-append whole []) in
    let front : take (length whole) (whole ++ []) ≡ whole = take-append_seam whole [] in
    let back : drop (length whole + 1) (whole ++ []) ≡ [] = drop-append-add whole [] 1 in
    let test : nat_lt 0 (length whole) ≡ true = grind (arith, nat_tests) in
    let apart : nat_eq (length whole + 1) (length whole) ≡ false = grind (arith, nat_tests) in
    record {
      are = rw (place, long, front, back, test, apart, all);
      value = rw (place, front, back) (after_append 0 whole []);
      behind = rw (place, back);
      plain = plain_first whole [] some all;
    }

printed_is : (scale units : ℕ) → units < 2 ^ 64 → ArePrinted (printed_magnitude scale units) scale units
printed_is zero units small =
    let whole : units / 10 ^ 0 ≡ units = omega arith in
    let is = decimal_is_IsNumeral_wide units (omega arith) in
    rw whole (rw (is.1) at (without_point (decimal units) is.0.0 (numerals.from (decimal units) is.0.1)))
printed_is (suc scale) units small =
    let less : units / 10 ^ suc scale ≤ units = div-le_self units (10 ^ suc scale) in
    let is = decimal_is_IsNumeral_wide (units / 10 ^ suc scale) (omega arith) in
    let long : length (last_digits (suc scale) units) ≡ suc scale = length_last (suc scale) units in
    let all = with_point (decimal (units / 10 ^ suc scale)) (last_digits (suc scale) units) is.0.0 (omega arith) (numerals.from (decimal (units / 10 ^ suc scale)) is.0.1) (all_last (suc scale) units) in
    record {
      are = all.are;
      value = all.value ∙ ap (λ n. digits_value_after 10 n (last_digits (suc scale) units)) is.1 ∙ after_last (suc scale) units;
      behind = all.behind ∙ long;
      plain = all.plain;
    }

read_plain : (bytes : List ℕ) (scale units : ℕ) (number : Decimal) → ArePrinted bytes scale units → IsNumber number → number.units ≡ pos units → number.scale ≡ scale → number_read bytes ≡ Some number
read_plain bytes scale units number printed is u s =
    rw (printed.plain, printed.are, printed.value, printed.behind)
    (ap (λ z. number_of z scale) (sym u) ∙ ap (λ t. number_of number.units t) (sym s) ∙ number_is number is)

read_negative : (bytes : List ℕ) (scale units : ℕ) (number : Decimal) → ArePrinted bytes scale (suc units) → IsNumber number → number.units ≡ negsuc units → number.scale ≡ scale → number_read (45 ∷ bytes) ≡ Some number
read_negative bytes scale units number printed is u s =
    rw (printed.are, printed.value, printed.behind)
    (ap (λ z. number_of z scale) (sym u) ∙ ap (λ t. number_of number.units t) (sym s) ∙ number_is number is)

pub printed_is_read : (number : Decimal) → IsNumber number → number_read (printed_number number) ≡ Some number
printed_is_read number is = by number.units refl
  where
    by : (z : ℤ) → number.units ≡ z → number_read (printed_units number.scale z) ≡ Some number
    by (pos units) e =
        let small : units < 2 ^ 64 = omega (arith, ints, rw e at is.last) in
        read_plain (printed_magnitude number.scale units) number.scale units number (printed_is number.scale units small) is e refl
    by (negsuc units) e =
        let small : suc units < 2 ^ 64 = omega (arith, ints, rw e at is.first) in
        read_negative (printed_magnitude number.scale (suc units)) number.scale units number (printed_is number.scale (suc units) small) is e refl

first_digit : (scale units : ℕ) → units < 2 ^ 64 → (0 < length (printed_magnitude scale units)) × (45 ≤ get_or (printed_magnitude scale units) 0 0) × (get_or (printed_magnitude scale units) 0 0 ≤ 57)
first_digit scale units small =
    let less : units / 10 ^ scale ≤ units = div-le_self units (10 ^ scale) in
    let is = decimal_is_IsNumeral_wide (units / 10 ^ scale) (omega arith) in
    let first = digit_at (decimal (units / 10 ^ scale)) 0 is.0.1 is.0.0 in
    let same : get_or (printed_magnitude scale units) 0 0 ≡ get_or (decimal (units / 10 ^ scale)) 0 0 = get_or-append (decimal (units / 10 ^ scale)) (printed_fraction scale units) 0 0 is.0.0 in
    (omega (arith, length-append (decimal (units / 10 ^ scale)) (printed_fraction scale units), is.0.0), omega (arith, same, first.0), omega (arith, same, first.1))

-- it begins with a digit or a `-`
pub printed_first : (number : Decimal) → IsNumber number → (0 < length (printed_number number)) × (45 ≤ get_or (printed_number number) 0 0) × (get_or (printed_number number) 0 0 ≤ 57)
printed_first number is = by number.units refl
  where
    by : (z : ℤ) → number.units ≡ z → (0 < length (printed_units number.scale z)) × (45 ≤ get_or (printed_units number.scale z) 0 0) × (get_or (printed_units number.scale z) 0 0 ≤ 57)
    by (pos units) e = first_digit number.scale units (omega (arith, ints, rw e at is.last))
    by (negsuc units) e = (omega arith, omega arith, omega arith)
