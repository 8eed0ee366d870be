-- Store by store.
use Rattle.std.proofs.Common.{◌≡◌, ◌≤◌, ◌<◌, ◌⊎◌, inl, inr, ℕ, zero, suc, ◌+◌, Option, Some, None, List, [], ◌∷◌, length, slice_get, slice_set, refl, sym, ap, subst, ◌∙◌, arith}
use Rattle.std.proofs.lemmas.Bool.{cases_lt}
use Rattle.std.specs.Prelude.{Result, Ok, Err, OnOk}
use Rattle.std.specs.declared.alloc.AllocError.{AllocError}
use Rattle.group_store.specs.Stores.{Kept, SameButSpare}
use Rattle.changed_sets.specs.Turning.{count_cuts, count_turns}
use Rattle.changed_sets.specs.Reading.{HasRoomAt, HaveRoom}
use Rattle.changed_sets.specs.Showing.{Pairs, PatchedAt}
use Rattle.changed_sets.specs.declared.turns.Patch.{Patch}
use Rattle.changed_sets.proofs.RoomLaws.{pairs_both}
use Rattle.changed_sets.proofs.ShowSteps.{at_none, before_at}
use Rattle.changed_sets.proofs.StorePairs.{room_self}

abbrev pub Room : Option Patch → Kept → Kept → Type 0
Room o = SameButSpare

pub room_pairs : (place : ℕ) (xs ys : List Kept) → PatchedAt Room place None xs ys → Pairs SameButSpare xs ys
room_pairs place [] [] p = tt
room_pairs place [] (y ∷ ys) p = absurd p
room_pairs place (x ∷ xs) [] p = absurd p
room_pairs zero (x ∷ xs) (y ∷ ys) p = (p.0, subst (Pairs SameButSpare xs) (sym p.1) (room_self xs))
room_pairs (suc place) (x ∷ xs) (y ∷ ys) p = (subst (SameButSpare x) (sym p.0) (record { table = refl; key = refl; foreign = refl; layers = refl; tables = refl; keys = refl }), room_pairs place xs ys p.1)

pub pairs_after : (place : ℕ) (start xs ys : List Kept) → Pairs SameButSpare start xs → PatchedAt Room place None xs ys → Pairs SameButSpare start ys
pairs_after place start xs ys same p = pairs_both start xs ys same (room_pairs place xs ys p)

at_long : (place : ℕ) (xs ys : List Kept) → PatchedAt Room place None xs ys → length ys ≡ length xs
at_long place [] [] p = refl
at_long place [] (y ∷ ys) p = absurd p
at_long place (x ∷ xs) [] p = absurd p
at_long zero (x ∷ xs) (y ∷ ys) p = ap suc (ap length p.1)
at_long (suc place) (x ∷ xs) (y ∷ ys) p = ap suc (at_long place xs ys p.1)

pub long_after : (place : ℕ) (start xs ys : List Kept) → length xs ≡ length start → PatchedAt Room place None xs ys → length ys ≡ length start
long_after place start xs ys long p = at_long place xs ys p ∙ long

pub room_more : (place : ℕ) (patches : List (Option Patch)) (xs ys : List Kept) → ((k : ℕ) → k < place → HasRoomAt k patches xs) → PatchedAt Room place None xs ys → HasRoomAt place patches ys → (k : ℕ) → k < place + 1 → HasRoomAt k patches ys
room_more place patches xs ys room p here k lt = by (cases_lt k place)
  where
    by : (k < place) ⊎ (place ≤ k) → HasRoomAt k patches ys
    by (inl less) = λ q s is at. room k less q s is (sym (before_at Room place None xs ys k less p) ∙ at)
    by (inr more) = let same : place ≡ k = omega (arith, more, lt) in subst (λ m. HasRoomAt m patches ys) same here

within : {A : Type 0} (xs : List A) (i : ℕ) (x : A) → slice_get xs i ≡ Some x → i < length xs
within [] i x at = cc
within (y ∷ xs) zero x at = omega arith
within (y ∷ xs) (suc i) x at = let lt = within xs i x at in omega (arith, lt)

pub all_room : (patches : List (Option Patch)) (xs : List Kept) (n : ℕ) → ((k : ℕ) → k < n → HasRoomAt k patches xs) → length xs ≤ n → HaveRoom patches xs
all_room patches xs n room le k p s is at = let lt = within xs k s at in room k (omega (arith, lt, le)) p s is at

pub room_same : (place : ℕ) (xs : List Kept) → PatchedAt Room place None xs xs
room_same place xs = at_none Room (λ x. record { table = refl; key = refl; foreign = refl; layers = refl; tables = refl; keys = refl }) place xs

got_set : (xs : List Kept) (place : ℕ) (y s : Kept) → place < length xs → slice_get (slice_set xs place y) place ≡ Some s → y ≡ s
got_set [] place y s lt at = absurd (omega (arith, lt))
got_set (x ∷ xs) zero y s lt at = cc
got_set (x ∷ xs) (suc place) y s lt at = got_set xs place y s (omega (arith, lt)) at

-- room was made for a patch
pub room_made : (place : ℕ) (patches : List (Option Patch)) (xs : List Kept) (y : Kept) (p : Patch) (count : ℕ) (result : Result (Unit {0}) AllocError) → place < length xs → slice_get patches place ≡ Some (Some p) → count ≡ count_cuts p.cuts + count_turns p.turns
    → OnOk result (count ≤ y.spare) → OnOk result (HasRoomAt place patches (slice_set xs place y))
room_made place patches xs y p count (Ok done) lt here counted room = λ q s is at.
    let one : Some (Some p) ≡ Some (Some q) = sym here ∙ is in
    let same : p ≡ q = cc in
    let it : y ≡ s = got_set xs place y s lt at in
    subst (λ z. count_cuts q.cuts + count_turns q.turns ≤ z.spare) it (subst (λ (z : Patch). count_cuts z.cuts + count_turns z.turns ≤ y.spare) same (subst (λ m. m ≤ y.spare) counted room))
room_made place patches xs y p count (Err e) lt here counted room = room
