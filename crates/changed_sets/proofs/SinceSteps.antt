-- Steps of the loops that find a position.
use Rattle.std.proofs.Common.{◌≡◌, ◌≤◌, ℕ, zero, suc, ◌+◌, true, cond, ◌&&◌, Some, None, List, [], ◌∷◌, length, drop, slice_get, refl, sym, ap, ◌∙◌, arith}
use Rattle.cache_tier.specs.Groups.{Group}
use Rattle.cache_tier.specs.Sets.{Choice}
use Rattle.stored_tier.proofs.FillSteps.{drop_one, drop_past}
use Rattle.changed_sets.specs.Since.{are_ready_since, first_position, is_ready_since}

pub drop_none : {X : Type 0} (l : List X) → drop 0 l ≡ l
drop_none [] = refl
drop_none (x ∷ l) = refl

none_past : {X : Type 0} (xs : List X) (i : ℕ) → slice_get xs i ≡ None → length xs ≤ i
none_past [] i none = omega arith
none_past (x ∷ xs) zero none = cc
none_past (x ∷ xs) (suc i) none = let le = none_past xs i none in omega (arith, le)

pub both_past : {X : Type 0} (xs : List X) (i : ℕ) → slice_get xs i ≡ None → drop (i + 1) xs ≡ drop i xs
both_past xs i none =
    let le = none_past xs i none in
    drop_past xs (i + 1) (omega (arith, le)) ∙ sym (drop_past xs i le)

module _ (filled : Choice) (groups : List Group) where
  pub first_here : (i : ℕ) (g : Group) → slice_get groups i ≡ Some g → first_position filled i (drop i groups) ≡ cond (filled i g) g.position (first_position filled (i + 1) (drop (i + 1) groups))
  first_here i g at =
      let z : suc i ≡ i + 1 = omega arith in
      ap (first_position filled i) (drop_one groups i g at) ∙ ap (λ n. cond (filled i g) g.position (first_position filled n (drop (i + 1) groups))) z

  pub first_none : (i : ℕ) → slice_get groups i ≡ None → first_position filled (i + 1) (drop (i + 1) groups) ≡ first_position filled i (drop i groups)
  first_none i none =
      let le = none_past groups i none in
      ap (first_position filled (i + 1)) (drop_past groups (i + 1) (omega (arith, le))) ∙ sym (ap (first_position filled i) (drop_past groups i le))

  pub first_end : (i : ℕ) → length groups ≤ i → first_position filled i (drop i groups) ≡ None
  first_end i le = ap (first_position filled i) (drop_past groups i le)

module _ (chosen : Choice) (n : ℕ) (groups : List Group) where
  pub ready_here : (i : ℕ) (g : Group) → slice_get groups i ≡ Some g → are_ready_since chosen n i (drop i groups) ≡ (is_ready_since chosen n i g && are_ready_since chosen n (i + 1) (drop (i + 1) groups))
  ready_here i g at =
      let z : suc i ≡ i + 1 = omega arith in
      ap (are_ready_since chosen n i) (drop_one groups i g at) ∙ ap (λ m. is_ready_since chosen n i g && are_ready_since chosen n m (drop (i + 1) groups)) z

  pub ready_none : (i : ℕ) → slice_get groups i ≡ None → are_ready_since chosen n (i + 1) (drop (i + 1) groups) ≡ are_ready_since chosen n i (drop i groups)
  ready_none i none =
      let le = none_past groups i none in
      ap (are_ready_since chosen n (i + 1)) (drop_past groups (i + 1) (omega (arith, le))) ∙ sym (ap (are_ready_since chosen n i) (drop_past groups i le))

  pub ready_end : (i : ℕ) → length groups ≤ i → are_ready_since chosen n i (drop i groups) ≡ true
  ready_end i le = ap (are_ready_since chosen n i) (drop_past groups i le)
