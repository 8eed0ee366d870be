-- Bytes that are not spoilt have no bad byte.
use Rattle.std.proofs.Common.{◌≡◌, ℕ, zero, suc, ◌≤◌, Bool, true, false, not, ◌&&◌, ◌+◌, cond, ltb, List, [], ◌∷◌, length, take, Some, None, refl, subst, arith}
use Rattle.std.proofs.lemmas.Bool.Decides.{nat_tests}
use Rattle.std.proofs.lemmas.Str.{IsUtf8-nil, IsUtf8-from_is_utf8}
use Rattle.std.proofs.Math.Seq.{take-length}
use Rattle.std.specs.Str.{IsUtf8, is_utf8}
use Rattle.std.specs.Str.Lossy.{utf8_valid_len, valid_len_up_to}
use Rattle.std.specs.List.{list_all, position_or_len}
use Rattle.sql_print.specs.sql_tokens.specs.Heads.{good_length, is_control, or_end, place_or_end}
use Rattle.sql_print.specs.sql_subset.specs.Lines.{is_spoilt}
use Rattle.print_laws.proofs.Fine.{IsFineText}

valid_le : (bs : List ℕ) (n : ℕ) → valid_len_up_to bs n ≤ n
valid_le bs zero = omega arith
valid_le bs (suc n) = elim (is_utf8 (take (suc n) bs)) as (λ b. cond b (suc n) (valid_len_up_to bs n) ≤ suc n) [ true ↦ omega arith | false ↦ let h = valid_le bs n in omega (arith, h) ]

valid_whole : (bs : List ℕ) (n : ℕ) → take (suc n) bs ≡ bs → suc n ≤ valid_len_up_to bs (suc n) → IsUtf8 bs
valid_whole bs n t h = by (is_utf8 (take (suc n) bs)) refl h
  where
    by : (b : Bool) → is_utf8 (take (suc n) bs) ≡ b → suc n ≤ cond b (suc n) (valid_len_up_to bs n) → IsUtf8 bs
    by true e l = subst (λ x. IsUtf8 x) t (IsUtf8-from_is_utf8 (take (suc n) bs) e)
    by false e l = let m = valid_le bs n in absurd (omega (arith, m))

whole_utf8 : (bs : List ℕ) → length bs ≤ utf8_valid_len bs → IsUtf8 bs
unfolding utf8_valid_len
whole_utf8 [] h = IsUtf8-nil
whole_utf8 (b ∷ bs) h = valid_whole (b ∷ bs) (length bs) (take-length (b ∷ bs)) h

no_control : (bs : List ℕ) → length bs ≤ position_or_len is_control bs → list_all (λ b. not (is_control b)) bs ≡ true
no_control [] h = refl
no_control (b ∷ bs) h = by (is_control b) h (λ l. no_control bs l)
  where
    by : (c : Bool) → suc (length bs) ≤ cond (not c) (1 + position_or_len is_control bs) 0 → (length bs ≤ position_or_len is_control bs → list_all (λ d. not (is_control d)) bs ≡ true) → not c && list_all (λ d. not (is_control d)) bs ≡ true
    by true l f = absurd (omega arith)
    by false l f = f (omega arith)

place_whole : (bs : List ℕ) → length bs ≤ place_or_end is_control bs → length bs ≤ position_or_len is_control bs
place_whole bs h = by (ltb (position_or_len is_control bs) (length bs)) refl h
  where
    by : (c : Bool) → ltb (position_or_len is_control bs) (length bs) ≡ c → length bs ≤ or_end (cond c (Some (position_or_len is_control bs)) None) bs → length bs ≤ position_or_len is_control bs
    by true e l = l
    by false e l = grind (arith, nat_tests)

pub fine_bytes : (bs : List ℕ) → is_spoilt bs ≡ false → IsFineText bs
fine_bytes bs h =
    let l : length bs ≤ good_length bs = grind (arith, nat_tests) in
    let a : length bs ≤ place_or_end is_control bs = omega arith in
    let b : length bs ≤ utf8_valid_len bs = omega arith in
    record { plain = no_control bs (place_whole bs a); utf8 = whole_utf8 bs b }
