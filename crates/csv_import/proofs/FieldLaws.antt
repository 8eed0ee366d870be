-- The fields from a place on, and texts.
use Rattle.std.proofs.Common.{◌≡◌, ℕ, zero, suc, ◌+◌, Bool, true, false, ◌&&◌, Some, None, List, [], ◌∷◌, drop, refl, ap, arith}
use Rattle.std.specs.List.{list_all}
use Rattle.std.specs.Str.{is_utf8}
use Rattle.std.proofs.lemmas.Str.{IsUtf8-from_is_utf8, is_utf8-from_IsUtf8}
use Rattle.csv.specs.Records.{AllText, field_at}

-- the field at a place begins them
pub field_begins : (fs : List (List ℕ)) (n : ℕ) (f : List ℕ) → field_at fs n ≡ Some f → drop n fs ≡ f ∷ drop (n + 1) fs
unfolding field_at
field_begins [] n f e = cc
field_begins (g ∷ fs) zero f e = let same : g ≡ f = cc in ap (λ x. x ∷ fs) same
field_begins (g ∷ fs) (suc n) f e = let next : suc n + 1 ≡ suc (n + 1) = omega arith in rw next (field_begins fs n f e)

-- there are none where no field has the place
pub none_left : (fs : List (List ℕ)) (n : ℕ) → field_at fs n ≡ None → drop n fs ≡ []
unfolding field_at
none_left [] zero e = refl
none_left [] (suc n) e = refl
none_left (g ∷ fs) zero e = cc
none_left (g ∷ fs) (suc n) e = none_left fs n e

pub all_text : (fs : List (List ℕ)) → AllText fs → list_all is_utf8 fs ≡ true
unfolding AllText
all_text [] h = refl
all_text (f ∷ fs) h = rw (is_utf8-from_IsUtf8 f h.0) (all_text fs h.1)

text_of_all : (fs : List (List ℕ)) → list_all is_utf8 fs ≡ true → AllText fs
unfolding AllText
text_of_all [] e = tt
text_of_all (f ∷ fs) e = let (here, rest) = both_true (is_utf8 f) (list_all is_utf8 fs) e in (IsUtf8-from_is_utf8 f here, text_of_all fs rest)
  where
    both_true : (a b : Bool) → (a && b) ≡ true → (a ≡ true) × (b ≡ true)
    both_true true b h = (refl, h)
    both_true false b h = cc

pub some_no_text : (fs : List (List ℕ)) → (AllText fs → ⊥) → list_all is_utf8 fs ≡ false
some_no_text fs none = by (list_all is_utf8 fs) refl
  where
    by : (b : Bool) → list_all is_utf8 fs ≡ b → b ≡ false
    by true e = absurd (none (text_of_all fs e))
    by false e = refl
