-- What is printed is read back.
use Rattle.std.proofs.Common.{◌≡◌, ℕ, suc, ◌-◌, ◌^◌, ◌<◌, ◌≤◌, List, [], ◌∷◌, ◌++◌, Bool, true, false, ◌&&◌, nat_eq, nat_lt, nat_le, length, get_or, refl, ap, ◌∙◌, arith, ℤ, pos, negsuc, neg_ℤ, Some}
use Rattle.std.specs.Fmt.{decimal}
use Rattle.std.specs.Option.{option_map}
use Rattle.std.specs.List.{list_all, flat_map, slice_range}
use Rattle.std.specs.Char.{is_ascii_digit}
use Rattle.std.specs.Str.Parse.{digits_value}
use Rattle.std.proofs.lemmas.Bool.Decides.{nat_tests}
use Rattle.std.proofs.lemmas.Int.{ints}
use Rattle.std.proofs.lemmas.Fmt.{decimal_is_IsNumeral_wide}
use Rattle.std.proofs.lemmas.List.{length-append}
use Rattle.std.proofs.lemmas.Str.Parse.{digit_at}
use Rattle.std.proofs.Math.Seq.{take-append_seam, get_or-append_seam}
use Rattle.row_types.specs.declared.value.Value.TheVariants.{Number, Text}
use Rattle.row_types.specs.Literals.{value_of, number_value, is_quoted, held_text, undoubled}
use Rattle.row_types.specs.Printing.{printed, doubled_quote}
use Rattle.numbers.specs.Decimals.{Decimal, IsNumber}
use Rattle.numbers.specs.NumberTexts.{printed_number}
use Rattle.numbers.proofs.TextLaws.{printed_first, printed_is_read}
use Rattle.row_types.proofs.QuoteLemmas.{undoubled-nil, undoubled-plain, first_pair}

middle_false : (a c : Bool) → a && false && c ≡ false
middle_false false c = refl
middle_false true c = refl

-- bytes that begin with a digit or a `-` are a literal of a number or none
begins_number : (b : ℕ) (bytes : List ℕ) → 45 ≤ b → b ≤ 57 → value_of (b ∷ bytes) ≡ number_value (b ∷ bytes)
begins_number b bytes low high =
    let null : nat_eq b 78 ≡ false = grind (arith, nat_tests) in
    let quote : nat_eq b 39 ≡ false = grind (arith, nat_tests) in
    let time : nat_eq 84 b ≡ false = grind (arith, nat_tests) in
    rw (null, quote, time) (simp middle_false)

begins_numbers : (bytes : List ℕ) → 0 < length bytes → 45 ≤ get_or bytes 0 0 → get_or bytes 0 0 ≤ 57 → value_of bytes ≡ number_value bytes
begins_numbers [] some low high = absurd (omega arith)
begins_numbers (b ∷ bytes) some low high = begins_number b bytes low high

pub printed_number_is : (n : Decimal) → IsNumber n → value_of (printed (Number n)) ≡ Some (Number n)
printed_number_is n is =
    let first = printed_first n is in
    begins_numbers (printed_number n) first.0 first.1 first.2 ∙ ap (option_map Number) (printed_is_read n is)

undoubled_more : (b : ℕ) (text rest : List ℕ) → undoubled rest ≡ Some text → undoubled (doubled_quote b ++ rest) ≡ Some (b ∷ text)
undoubled_more b text rest e = by (nat_eq b 39) refl
  where
    by : (quote : Bool) → nat_eq b 39 ≡ quote → undoubled (doubled_quote b ++ rest) ≡ Some (b ∷ text)
    by true is = let same : b ≡ 39 = grind (arith, nat_tests) in rw same (first_pair (39 ∷ 39 ∷ rest) refl ∙ ap (option_map (λ more. 39 ∷ more)) e)
    by false is = rw is (undoubled-plain b rest is ∙ ap (option_map (λ more. b ∷ more)) e)

undoubled_doubled : (text : List ℕ) → undoubled (flat_map doubled_quote text) ≡ Some text
undoubled_doubled [] = undoubled-nil
undoubled_doubled (b ∷ text) = undoubled_more b text (flat_map doubled_quote text) (undoubled_doubled text)

-- what stands between a quote at either end
between_quotes : (bytes : List ℕ) → (is_quoted (39 ∷ (bytes ++ 39 ∷ [])) ≡ true) × (slice_range (39 ∷ (bytes ++ 39 ∷ [])) 1 (length (39 ∷ (bytes ++ 39 ∷ [])) - 1) ≡ bytes)
between_quotes bytes =
    let long : length (bytes ++ 39 ∷ []) ≡ suc (length bytes) = omega (arith, length-append bytes (39 ∷ [])) in
    let last : suc (suc (length bytes)) - 1 ≡ suc (length bytes) = omega arith in
    let within : suc (length bytes) - 1 ≡ length bytes = omega arith in
    let two : nat_le 2 (suc (suc (length bytes))) ≡ true = grind (arith, nat_tests) in
    (rw (long, last, two, get_or-append_seam bytes 39 [] 0), rw (long, last, within, take-append_seam bytes (39 ∷ [])))

held_is : (text : List ℕ) → 1 ≤ length text → length text ≤ 4000 → held_text text ≡ Some (Text text)
held_is [] some fits = absurd (omega arith)
held_is (b ∷ text) some fits = let test : nat_le (length (b ∷ text)) 4000 ≡ true = grind (arith, nat_tests) in rw test

pub printed_text : (text : List ℕ) → 1 ≤ length text → length text ≤ 4000 → value_of (printed (Text text)) ≡ Some (Text text)
printed_text text some fits =
    let parts = between_quotes (flat_map doubled_quote text) in
    rw (parts.0, parts.1, undoubled_doubled text) (held_is text some fits)
