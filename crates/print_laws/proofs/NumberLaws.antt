-- Numbers of 64 bits that are printed are read back.
use Rattle.std.proofs.Common.{◌≡◌, ℕ, ◌+◌, ◌*◌, ◌-◌, ◌^◌, ◌<◌, ◌≤◌, true, List, [], ◌∷◌, refl, ap, ◌∙◌, arith}
use Rattle.std.proofs.lemmas.Bool.Decides.{nat_tests}
use Rattle.std.proofs.lemmas.Fmt.{digits_decimal, digits_value-decimal, decimal_nonempty}
use Rattle.std.specs.Fmt.{decimal}
use Rattle.std.specs.List.{list_all}
use Rattle.std.specs.Char.{digit_value, is_ascii_digit}
use Rattle.std.specs.Str.Parse.{digits_value, digits_value_after}
use Rattle.sql_print.specs.row_types.proofs.Digits.{numerals}
use Rattle.sql_print.specs.sql_grammar.proofs.Lists.{and_left, and_right}
use Rattle.sql_print.specs.sql_phrases.specs.Reading.{capped, number_of, number_with}
use Rattle.print_laws.proofs.Literals.{IsDigits}

-- the value with further digits is no less
value_grows : (ds : List ℕ) (a : ℕ) → a ≤ digits_value_after 10 a ds
value_grows [] a = omega arith
value_grows (d ∷ ds) a = let h = value_grows ds (a * 10 + digit_value d) in omega (arith, h)

digit_is : (b : ℕ) → is_ascii_digit b ≡ true → digit_value b ≡ b - 48
digit_is b h = grind (arith, nat_tests)

-- a number of 64 bits is read as it is
number_is : (ds : List ℕ) (a : ℕ) → list_all is_ascii_digit ds ≡ true → digits_value_after 10 a ds ≤ 18446744073709551615 → number_with a ds ≡ digits_value_after 10 a ds
number_is [] a h l = refl
number_is (d ∷ ds) a h l =
    let e = digit_is d (and_left (is_ascii_digit d) (list_all is_ascii_digit ds) h) in
    let g = value_grows ds (a * 10 + digit_value d) in
    let c : capped (10 * a + (d - 48)) ≡ a * 10 + digit_value d = omega (arith, e, g) in
    ap (λ n. number_with n ds) c ∙ number_is ds (a * 10 + digit_value d) (and_right (is_ascii_digit d) (list_all is_ascii_digit ds) h) l

-- the number is one of 64 bits
abbrev pub IsCapped : ℕ → Type 0
IsCapped n = n ≤ 18446744073709551615

pub decimal_digits : (n : ℕ) → IsCapped n → IsDigits (decimal n)
decimal_digits n l = let small : n < 2 ^ 64 = omega arith in record { digits = digits_decimal numerals n small; some = decimal_nonempty n small }

pub number_back : (n : ℕ) → IsCapped n → number_of (decimal n) ≡ n
number_back n l =
    let small : n < 2 ^ 64 = omega arith in
    let v : digits_value 10 (decimal n) ≡ n = digits_value-decimal numerals n small in
    let m : digits_value_after 10 0 (decimal n) ≤ 18446744073709551615 = omega (arith, v) in
    number_is (decimal n) 0 (digits_decimal numerals n small) m ∙ v

once : (n : ℕ) → IsCapped n → capped (n * 1) ≡ n
once n l = omega arith

pub number_once : (n : ℕ) → IsCapped n → capped (number_of (decimal n) * 1) ≡ n
number_once n l = ap (λ x. capped (x * 1)) (number_back n l) ∙ once n l

pub capped_is : (n : ℕ) → IsCapped (capped n)
capped_is n = omega arith
