-- Values and rows are read as they are spelled.
use Rattle.std.proofs.Common.{◌≡◌, ℕ, ℤ, pos, negsuc, zero, suc, ◌^◌, ◌<◌, ◌≤◌, ◌⊎◌, not, ◌≤ℤ◌, ◌<ℤ◌, Bool, true, false, cond, ltb, leb, eqb, ◌&&◌, List, [], ◌∷◌, ◌++◌, length, Option, Some, None, refl, sym, subst, arith, inl, inr}
use Rattle.std.specs.List.{flat_map, AllByRecursion}
use Rattle.std.specs.Int.{w16, w64, to_be_bytes}
use Rattle.std.specs.Prelude.{FitsSigned}
use Rattle.std.specs.Str.{is_utf8}
use Rattle.std.proofs.lemmas.Bool.{ltb-true, eqb-true, ne_eqb, lt-ltb, le-leb, leb-true}
use Rattle.std.proofs.lemmas.Option.{same_Some}
use Rattle.std.specs.Int.Signed.{lt_z, lt_z_no, lt_z_yes}
use Rattle.std.proofs.lemmas.Float.{T_from_true}
use Rattle.std.proofs.lemmas.Int.{ints}
use Rattle.row_types.specs.Times.{IsTime}
use Rattle.row_types.specs.numbers.specs.Decimals.{Decimal as OneNumber}
use Rattle.row_types.specs.declared.value.Value.{Value}
use Rattle.row_types.specs.declared.value.Value.TheVariants.{Null, Number, Text, Time}
use Rattle.journal_entries.specs.Spelling.{IsBytes, signed_bytes, value_bytes, row_bytes, IsScale, IsValue, IsRow}
use Rattle.journal_entries.specs.Reading.{both_at, test_at, many_at, byte_at, number_at, bytes_at, signed_at, integer_at, string_at, is_text, text_at, is_time, time_at, is_scale, scaled_at, tagged_value_at, value_at, row_at}
use Rattle.journal_entries.proofs.Exact.{Takes, Takes-then, Exact, bind_some, exact_both, exact_then, exact_test, exact_many, as_takes, as_again, wide16, exact_number, exact_byte, exact_bytes, exact_signed}

abbrev numbered : ℤ → ℕ → OneNumber
numbered z n = record { units = z; scale = n }

pub chosen : {A : Type 0} (b : Bool) (x y z : A) → cond b x y ≡ z → ((b ≡ true) × (x ≡ z)) ⊎ ((b ≡ false) × (y ≡ z))
chosen true x y z e = inl (refl, e)
chosen false x y z e = inr (refl, e)

pub and_true : (a b : Bool) → (a && b) ≡ true → (a ≡ true) × (b ≡ true)
and_true true b e = (refl, e)
and_true false b e = absurd cc

pub none_is : {A P : Type 0} (x : A) → ◌≡◌ {A = Option A} None (Some x) → P
none_is x e = absurd cc

-- the value's spelling is the tag and what is taken behind it
pub record ValueTakes (version tag : ℕ) (bytes : List ℕ) (x : Value) (rest : List ℕ) : Type 0 where
  pub text : List ℕ
  pub spelled : value_bytes x ≡ tag ∷ text
  pub takes : Takes bytes text rest
  pub fits : IsValue version x

exact_string : Exact (λ bytes. string_at bytes) (λ t. to_be_bytes w16 (length t) ++ t) (λ t. (length t < 2 ^ 16) × Unit {0})
unfolding string_at
exact_string = exact_then (λ b. number_at w16 b) (λ n b. bytes_at n b) (λ (t : List ℕ). length t) (λ n. to_be_bytes w16 n) (λ t. t) (λ n. n < 2 ^ 16) (λ t. Unit {0}) (exact_number w16 (2 ^ 16) wide16) exact_bytes

exact_text : Exact (λ b. test_at (λ t. is_text t) (λ b. string_at b) b) (λ t. to_be_bytes w16 (length t) ++ t) (λ t. ((length t < 2 ^ 16) × Unit {0}) × (is_text t ≡ true))
exact_text = exact_test (λ t. is_text t) (λ b. string_at b) (λ t. to_be_bytes w16 (length t) ++ t) (λ t. (length t < 2 ^ 16) × Unit {0}) exact_string

exact_time : Exact (λ b. test_at (λ z. is_time z) (λ b. signed_at b) b) signed_bytes (λ z. FitsSigned w64 z × (is_time z ≡ true))
exact_time = exact_test (λ z. is_time z) (λ b. signed_at b) signed_bytes (λ z. FitsSigned w64 z) exact_signed

exact_scale : Exact (λ b. test_at (λ n. is_scale n) (λ b. byte_at b) b) (λ b. b ∷ []) (λ n. (n < 2 ^ 8) × (is_scale n ≡ true))
exact_scale = exact_test (λ n. is_scale n) (λ b. byte_at b) (λ b. b ∷ []) (λ n. n < 2 ^ 8) exact_byte

exact_scaled : Exact (λ b. both_at (λ b. test_at (λ n. is_scale n) (λ b. byte_at b) b) (λ b. signed_at b) b) (λ p. (p.0 ∷ []) ++ signed_bytes p.1) (λ p. ((p.0 < 2 ^ 8) × (is_scale p.0 ≡ true)) × FitsSigned w64 p.1)
exact_scaled = exact_both (λ b. test_at (λ n. is_scale n) (λ b. byte_at b) b) (λ b. signed_at b) (λ b. b ∷ []) signed_bytes (λ n. (n < 2 ^ 8) × (is_scale n ≡ true)) (λ z. FitsSigned w64 z) exact_scale exact_signed

time_is : (z : ℤ) → is_time z ≡ true → IsTime z
time_is z e =
    let p = and_true (not (lt_z z (negsuc 62135596799))) (not (lt_z (pos 253402300799) z)) e in
    record { first = lt_z_no {a = z} {b = negsuc 62135596799} (T_from_true _ p.0); last = lt_z_no {a = pos 253402300799} {b = z} (T_from_true _ p.1) }

not_below : (a b : ℤ) → b ≤ℤ a → not (lt_z a b) ≡ true
not_below a b h = elim (lt_z a b) as (λ t. lt_z a b ≡ t → not t ≡ true) [
  | true ↦ λ e. let lt : a <ℤ b = lt_z_yes {a = a} {b = b} (T_from_true _ e) in absurd (omega (arith, ints, lt, h))
  | false ↦ λ e. refl
] refl

is_time_from : (z : ℤ) → IsTime z → is_time z ≡ true
is_time_from z h = rw (not_below z (negsuc 62135596799) h.first, not_below (pos 253402300799) z h.last) refl

time_fits : (z : ℤ) → IsTime z → FitsSigned w64 z
time_fits (pos n) h = let last : pos n ≤ℤ pos 253402300799 = h.last in record { sfits = omega (arith, ints, last) }
time_fits (negsuc n) h = let first : negsuc 62135596799 ≤ℤ negsuc n = h.first in record { sfits = omega (arith, ints, first) }

scale_is : (n : ℕ) → is_scale n ≡ true → (eqb n 0 ≡ false) × (n ≤ 18)
scale_is n e =
    let p = and_true (ltb 0 n) (leb n 18) e in
    let above : 0 < n = ltb-true 0 n p.0 in
    (ne_eqb n 0 (λ (z : n ≡ 0). omega arith), leb-true n 18 p.1)

integer_takes : (version : ℕ) (bytes : List ℕ) (x : Value) (rest : List ℕ) → IsBytes bytes → integer_at bytes ≡ Some (x, rest) → ValueTakes version 1 bytes x rest
unfolding integer_at
integer_takes version bytes x rest fits e =
    let t = as_takes (λ z. Number (numbered z 0)) (λ b. signed_at b) signed_bytes (λ z. FitsSigned w64 z) exact_signed bytes x rest fits e in
    subst (λ (x : Value). ValueTakes version 1 bytes x rest) t.1
    (record { text = signed_bytes t.0; spelled = refl; takes = t.2; fits = (t.3, (omega arith, inl refl)) })

text_takes : (version : ℕ) (bytes : List ℕ) (x : Value) (rest : List ℕ) → IsBytes bytes → text_at bytes ≡ Some (x, rest) → ValueTakes version 2 bytes x rest
unfolding text_at
text_takes version bytes x rest fits e =
    let t = as_takes (λ t. Text t) (λ b. test_at (λ t. is_text t) (λ b. string_at b) b) (λ t. to_be_bytes w16 (length t) ++ t) (λ t. ((length t < 2 ^ 16) × Unit {0}) × (is_text t ≡ true)) exact_text bytes x rest fits e in
    let p = and_true (ltb 0 (length t.0)) (is_utf8 t.0) t.3.1 in
    subst (λ (x : Value). ValueTakes version 2 bytes x rest) t.1
    (record { text = to_be_bytes w16 (length t.0) ++ t.0; spelled = refl; takes = t.2; fits = (ltb-true 0 (length t.0) p.0, t.3.0.0, p.1) })

time_takes : (version : ℕ) (bytes : List ℕ) (x : Value) (rest : List ℕ) → IsBytes bytes → time_at bytes ≡ Some (x, rest) → ValueTakes version 3 bytes x rest
unfolding time_at
time_takes version bytes x rest fits e =
    let t = as_takes (λ z. Time z) (λ b. test_at (λ z. is_time z) (λ b. signed_at b) b) signed_bytes (λ z. FitsSigned w64 z × (is_time z ≡ true)) exact_time bytes x rest fits e in
    subst (λ (x : Value). ValueTakes version 3 bytes x rest) t.1
    (record { text = signed_bytes t.0; spelled = refl; takes = t.2; fits = time_is t.0 t.3.1 })

scaled_takes : (version : ℕ) (bytes : List ℕ) (x : Value) (rest : List ℕ) → version ≡ 2 → IsBytes bytes → scaled_at bytes ≡ Some (x, rest) → ValueTakes version 4 bytes x rest
unfolding scaled_at
scaled_takes version bytes x rest two fits e =
    let t = as_takes (λ (p : ℕ × ℤ). Number (numbered p.1 p.0)) (λ b. both_at (λ b. test_at (λ n. is_scale n) (λ b. byte_at b) b) (λ b. signed_at b) b) (λ p. (p.0 ∷ []) ++ signed_bytes p.1) (λ p. ((p.0 < 2 ^ 8) × (is_scale p.0 ≡ true)) × FitsSigned w64 p.1) exact_scaled bytes x rest fits e in
    let s = scale_is t.0.0 t.3.0.1 in
    subst (λ (x : Value). ValueTakes version 4 bytes x rest) t.1
    (record { text = t.0.0 ∷ signed_bytes t.0.1; spelled = rw s.0 refl; takes = t.2; fits = (t.3.1, (s.1, inr two)) })

tagged_value_takes : (version tag : ℕ) (bytes : List ℕ) (x : Value) (rest : List ℕ) → IsBytes bytes → tagged_value_at version tag bytes ≡ Some (x, rest) → ValueTakes version tag bytes x rest
tagged_value_takes version tag bytes x rest fits e =
    elim (chosen (eqb tag 0) _ _ (Some (x, rest)) e) [
      | inl p0 ↦ subst (λ (t : ℕ). ValueTakes version t bytes x rest) (sym (eqb-true tag 0 p0.0))
          (subst (λ (z : Value × List ℕ). ValueTakes version 0 bytes z.0 z.1) (same_Some (Null, bytes) (x, rest) p0.1) (record { text = []; spelled = refl; takes = record { parts = refl; rest_fits = fits }; fits = tt }))
      | inr p0 ↦ elim (chosen (eqb tag 1) _ _ (Some (x, rest)) p0.1) [
        | inl p1 ↦ subst (λ (t : ℕ). ValueTakes version t bytes x rest) (sym (eqb-true tag 1 p1.0)) (integer_takes version bytes x rest fits p1.1)
        | inr p1 ↦ elim (chosen (eqb tag 2) _ _ (Some (x, rest)) p1.1) [
          | inl p2 ↦ subst (λ (t : ℕ). ValueTakes version t bytes x rest) (sym (eqb-true tag 2 p2.0)) (text_takes version bytes x rest fits p2.1)
          | inr p2 ↦ elim (chosen (eqb tag 3) _ _ (Some (x, rest)) p2.1) [
            | inl p3 ↦ subst (λ (t : ℕ). ValueTakes version t bytes x rest) (sym (eqb-true tag 3 p3.0)) (time_takes version bytes x rest fits p3.1)
            | inr p3 ↦ elim (chosen (eqb tag 4 && eqb version 2) _ _ (Some (x, rest)) p3.1) [
              | inl p4 ↦ let q = and_true (eqb tag 4) (eqb version 2) p4.0 in
                  subst (λ (t : ℕ). ValueTakes version t bytes x rest) (sym (eqb-true tag 4 q.0)) (scaled_takes version bytes x rest (eqb-true version 2 q.1) fits p4.1)
              | inr p4 ↦ none_is (x, rest) p4.1
            ]
          ]
        ]
      ]
    ]

value_takes : (version : ℕ) (bytes : List ℕ) (x : Value) (rest : List ℕ) → IsBytes bytes → value_at version bytes ≡ Some (x, rest) → Takes bytes (value_bytes x) rest × IsValue version x
unfolding value_at
value_takes version bytes x rest fits e =
    let p = bind_some (byte_at bytes) (λ tag. tagged_value_at version tag.0 tag.1) (x, rest) e in
    let b = exact_byte.takes bytes p.0.0 p.0.1 fits p.1 in
    let t = tagged_value_takes version p.0.0 p.0.1 x rest b.0.rest_fits p.2 in
    (rw t.spelled (Takes-then bytes (p.0.0 ∷ []) p.0.1 t.text rest b.0 t.takes), t.fits)

scaled_again : (version : ℕ) (z : ℤ) (n : ℕ) (rest : List ℕ) → version ≡ 2 → 0 < n → n ≤ 18 → FitsSigned w64 z → value_at version (4 ∷ n ∷ (signed_bytes z ++ rest)) ≡ Some (Number (numbered z n), rest)
unfolding value_at byte_at scaled_at
scaled_again version z n rest two above below h =
    let scale : is_scale n ≡ true = rw (lt-ltb 0 n above, le-leb n 18 below) refl in
    let one = as_again (λ (p : ℕ × ℤ). Number (numbered p.1 p.0)) (λ b. both_at (λ b. test_at (λ n. is_scale n) (λ b. byte_at b) b) (λ b. signed_at b) b) (λ p. (p.0 ∷ []) ++ signed_bytes p.1) (λ p. ((p.0 < 2 ^ 8) × (is_scale p.0 ≡ true)) × FitsSigned w64 p.1) exact_scaled (n, z) rest (((omega arith, scale)), h) in
    rw two one

number_again : (version : ℕ) (z : ℤ) (n : ℕ) (rest : List ℕ) → FitsSigned w64 z × IsScale version n → value_at version (value_bytes (Number (numbered z n)) ++ rest) ≡ Some (Number (numbered z n), rest)
unfolding value_at byte_at integer_at scaled_at
number_again version z zero rest h = as_again (λ z. Number (numbered z 0)) (λ b. signed_at b) signed_bytes (λ z. FitsSigned w64 z) exact_signed z rest h.0
number_again version z (suc k) rest h =
    let two : version ≡ 2 = elim h.1.1 [ inl z ↦ absurd (omega arith) | inr two ↦ two ] in
    rw (ne_eqb (suc k) 0 (λ (z : suc k ≡ 0). omega arith)) (scaled_again version z (suc k) rest two (omega arith) h.1.0 h.0)

value_again : (version : ℕ) (x : Value) (rest : List ℕ) → IsValue version x → value_at version (value_bytes x ++ rest) ≡ Some (x, rest)
unfolding value_at byte_at integer_at text_at time_at scaled_at
value_again version Null rest h = refl
value_again version (Number n) rest h = number_again version n.units n.scale rest h
value_again version (Text t) rest h =
    as_again (λ t. Text t) (λ b. test_at (λ t. is_text t) (λ b. string_at b) b) (λ t. to_be_bytes w16 (length t) ++ t) (λ t. ((length t < 2 ^ 16) × Unit {0}) × (is_text t ≡ true)) exact_text t rest
    ((h.1, tt), rw (lt-ltb 0 (length t) h.0) h.2)
value_again version (Time z) rest h =
    as_again (λ z. Time z) (λ b. test_at (λ z. is_time z) (λ b. signed_at b) b) signed_bytes (λ z. FitsSigned w64 z × (is_time z ≡ true)) exact_time z rest (time_fits z h, is_time_from z h)

pub exact_value : (version : ℕ) → Exact (λ b. value_at version b) value_bytes (IsValue version)
exact_value version = record { takes = λ bytes x rest fits e. value_takes version bytes x rest fits e; again = λ x rest h. value_again version x rest h }

exact_values : (version : ℕ) → Exact (λ bytes. row_at version bytes) (λ row. (length row ∷ []) ++ flat_map value_bytes row) (λ row. (length row < 2 ^ 8) × AllByRecursion (IsValue version) row)
unfolding row_at
exact_values version = exact_then (λ b. byte_at b) (λ n b. many_at (λ b. value_at version b) n b) (λ (row : List Value). length row) (λ n. n ∷ []) (λ row. flat_map value_bytes row) (λ n. n < 2 ^ 8) (λ row. AllByRecursion (IsValue version) row) exact_byte (λ n. exact_many (λ b. value_at version b) value_bytes (IsValue version) (exact_value version) n)

pub exact_row : (version : ℕ) → Exact (λ bytes. row_at version bytes) row_bytes (λ row. IsRow version row)
exact_row version = record {
  takes = λ bytes row rest fits e. let t = (exact_values version).takes bytes row rest fits e in (t.0, record { count = t.1.0; values = t.1.1 });
  again = λ row rest h. (exact_values version).again row rest (h.count, h.values);
}
