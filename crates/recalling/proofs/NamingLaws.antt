-- The group of a name: what leaves where it does, and what changes.
use Rattle.std.proofs.Common.{◌≡◌, ◌∙◌, ℕ, zero, suc, ◌+◌, ◌<◌, Bool, true, false, cond, not, ◌||◌, nat_eq, Some, None, List, [], ◌∷◌, length, slice_get, refl, sym, ap, arith}
use Rattle.std.specs.List.{filter, find, list_any, remove}
use Rattle.std.proofs.lemmas.Bool.Decides.{nat_tests}
use Rattle.std.proofs.lemmas.Slice.Eq.{bytes_eq-Decides}
use Rattle.order_laws.proofs.TruthLaws.{never_both, not_both}
use Rattle.cache_tier.specs.Groups.{Group, changed_where, is_called}
use Rattle.cache_tier.specs.Sets.{alone, changed_from}
use Rattle.cache_tier.proofs.GroupTables.{find_passes}
use Rattle.recalling.specs.Steps.{AreNamedApart, IsPlaceOf, is_one_called}

-- ---- the first of a name

pub none_found : (name : List ℕ) (groups : List Group) → ((k : ℕ) → k < length groups → is_one_called name (slice_get groups k) ≡ false) → find (is_called name) groups ≡ None
none_found name [] none = refl
none_found name (g ∷ groups) none =
    ap (λ b. cond b (Some g) (find (is_called name) groups)) (none 0 (omega arith)) ∙ none_found name groups (λ k lt. none (suc k) (omega arith))

pub first_found : (name : List ℕ) (groups : List Group) (place : ℕ) → ((k : ℕ) → k < place → is_one_called name (slice_get groups k) ≡ false)
    → is_one_called name (slice_get groups place) ≡ true → IsPlaceOf groups name place
first_found name [] place none here = cc
first_found name (g ∷ groups) zero none here = record {
  group = g;
  at = refl;
  found = ap (λ b. cond b (Some g) (find (is_called name) groups)) here;
}
first_found name (g ∷ groups) (suc place) none here =
    let rest = first_found name groups place (λ k lt. none (suc k) (omega arith)) here in
    record {
      group = rest.group;
      at = rest.at;
      found = ap (λ b. cond b (Some g) (find (is_called name) groups)) (none 0 (omega arith)) ∙ rest.found;
    }

pub within : (groups : List Group) (place : ℕ) (g : Group) → slice_get groups place ≡ Some g → place < length groups
within [] place g at = cc
within (h ∷ groups) zero g at = omega arith
within (h ∷ groups) (suc place) g at = let rest = within groups place g at in omega arith

-- ---- the rest

none_called : (name : List ℕ) (groups : List Group) → list_any (is_called name) groups ≡ false → filter (λ h. not (is_called name h)) groups ≡ groups
none_called name [] none = refl
none_called name (g ∷ groups) none = by (is_called name g) none (none_called name groups)
  where
    by : (b : Bool) → (b || list_any (is_called name) groups) ≡ false → (list_any (is_called name) groups ≡ false → filter (λ h. not (is_called name h)) groups ≡ groups)
        → cond (not b) (g ∷ filter (λ h. not (is_called name h)) groups) (filter (λ h. not (is_called name h)) groups) ≡ g ∷ groups
    by true e rest = cc
    by false e rest = ap (λ gs. g ∷ gs) (rest e)

none_changed : (name : List ℕ) (change : Group → Group) (groups : List Group) → list_any (is_called name) groups ≡ false → changed_where (is_called name) change groups ≡ groups
none_changed name change [] none = refl
none_changed name change (g ∷ groups) none = by (is_called name g) none (none_changed name change groups)
  where
    by : (b : Bool) → (b || list_any (is_called name) groups) ≡ false → (list_any (is_called name) groups ≡ false → changed_where (is_called name) change groups ≡ groups)
        → cond b (change g) g ∷ changed_where (is_called name) change groups ≡ g ∷ groups
    by true e rest = cc
    by false e rest = ap (λ gs. g ∷ gs) (rest e)

-- a name of the first group is no other's
none_other : (name : List ℕ) (g : Group) (groups : List Group) → is_called name g ≡ true → AreNamedApart (g ∷ groups) → list_any (is_called name) groups ≡ false
none_other name g groups called apart = ap (λ n. list_any (is_called n) groups) (sym ((bytes_eq-Decides g.def.name name).0 called)) ∙ apart.0

-- places behind it stay
changed_past : (change : Group → Group) (place from : ℕ) (groups : List Group) → place < from → changed_from (alone place) change from groups ≡ groups
changed_past change place from [] lt = refl
changed_past change place from (g ∷ groups) lt =
    let no : nat_eq from place ≡ false = grind (arith, nat_tests) in
    let rest : changed_from (alone place) change (suc from) groups ≡ groups = changed_past change place (suc from) groups (omega arith) in
    ap (λ (b : Bool). cond b (change g) g ∷ changed_from (alone place) change (suc from) groups) no ∙ ap (λ gs. g ∷ gs) rest

-- the first group has another name than a later one
not_first : (name : List ℕ) (x g : Group) (groups : List Group) (place : ℕ) → AreNamedApart (x ∷ groups) → slice_get groups place ≡ Some g → is_called name g ≡ true → is_called name x ≡ false
not_first name x g groups place apart at called =
    not_both (is_called name x) (λ is. never_both (list_any (is_called name) groups) (there groups place at) (none_other name x groups is apart))
  where
    there : (gs : List Group) (i : ℕ) → slice_get gs i ≡ Some g → list_any (is_called name) gs ≡ true
    there [] i e = cc
    there (y ∷ gs) zero e = let one : y ≡ g = cc in ap (λ b. b || list_any (is_called name) gs) (ap (is_called name) one ∙ called)
    there (y ∷ gs) (suc i) e = or (is_called name y) (there gs i e)
      where
        or : (b : Bool) → list_any (is_called name) gs ≡ true → (b || list_any (is_called name) gs) ≡ true
        or true rest = refl
        or false rest = rest

left_named : (name : List ℕ) (groups : List Group) (place : ℕ) (g : Group) → AreNamedApart groups → slice_get groups place ≡ Some g → is_called name g ≡ true
    → remove groups place ≡ filter (λ h. not (is_called name h)) groups
left_named name [] place g apart at called = cc
left_named name (x ∷ groups) zero g apart at called =
    let one : x ≡ g = cc in
    let is : is_called name x ≡ true = ap (is_called name) one ∙ called in
    sym (ap (λ b. cond (not b) (x ∷ filter (λ h. not (is_called name h)) groups) (filter (λ h. not (is_called name h)) groups)) is ∙ none_called name groups (none_other name x groups is apart))
left_named name (x ∷ groups) (suc place) g apart at called =
    let is : is_called name x ≡ false = not_first name x g groups place apart at called in
    ap (λ gs. x ∷ gs) (left_named name groups place g apart.1 at called)
    ∙ sym (ap (λ b. cond (not b) (x ∷ filter (λ h. not (is_called name h)) groups) (filter (λ h. not (is_called name h)) groups)) is)

changed_named : (name : List ℕ) (change : Group → Group) (groups : List Group) (from place i : ℕ) (g : Group) → i ≡ from + place → AreNamedApart groups → slice_get groups place ≡ Some g
    → is_called name g ≡ true → changed_from (alone i) change from groups ≡ changed_where (is_called name) change groups
changed_named name change [] from place i g same apart at called = cc
changed_named name change (x ∷ groups) from zero i g same apart at called =
    let one : x ≡ g = cc in
    let is : is_called name x ≡ true = ap (is_called name) one ∙ called in
    let yes : nat_eq from i ≡ true = grind (arith, nat_tests) in
    (λ k. cond (yes k) (change x) x ∷ changed_past change i (suc from) groups (omega arith) k)
    ∙ sym (λ k. cond (is k) (change x) x ∷ none_changed name change groups (none_other name x groups is apart) k)
changed_named name change (x ∷ groups) from (suc place) i g same apart at called =
    let is : is_called name x ≡ false = not_first name x g groups place apart at called in
    let no : nat_eq from i ≡ false = grind (arith, nat_tests) in
    (λ k. cond (no k) (change x) x ∷ changed_named name change groups (suc from) place i g (omega arith) apart.1 at called k)
    ∙ sym (λ k. cond (is k) (change x) x ∷ changed_where (is_called name) change groups)

called_there : (groups : List Group) (name : List ℕ) (place : ℕ) (is : IsPlaceOf groups name place) → is_called name is.group ≡ true
called_there groups name place is = find_passes (is_called name) groups is.group is.found

pub left_at : (groups : List Group) (name : List ℕ) (place : ℕ) → AreNamedApart groups → IsPlaceOf groups name place → remove groups place ≡ filter (λ h. not (is_called name h)) groups
left_at groups name place apart is = left_named name groups place is.group apart is.at (called_there groups name place is)

pub changed_at : (groups : List Group) (name : List ℕ) (change : Group → Group) (place : ℕ) → AreNamedApart groups → IsPlaceOf groups name place
    → changed_from (alone place) change 0 groups ≡ changed_where (is_called name) change groups
changed_at groups name change place apart is = changed_named name change groups 0 place place is.group (omega arith) apart is.at (called_there groups name place is)
