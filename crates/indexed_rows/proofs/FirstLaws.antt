-- Laws of the first element that passes a test.
use Rattle.std.proofs.Common.{◌≡◌, ℕ, zero, suc, ◌+◌, ◌≤◌, Bool, true, false, cond, Some, None, List, [], ◌∷◌, length, drop, slice_get, refl, ap, ◌∙◌, arith}
use Rattle.indexed_rows.specs.Rows.{first_from}

-- the rest of a list begins with the element there
pub drop_at : {X : Type 0} (xs : List X) (i : ℕ) (x : X) → slice_get xs i ≡ Some x → drop i xs ≡ x ∷ drop (i + 1) xs
drop_at [] i x e = cc
drop_at (y ∷ xs) zero x e = let same : y ≡ x = cc in ap (λ z. z ∷ xs) same
drop_at (y ∷ xs) (suc i) x e = let next : suc i + 1 ≡ suc (i + 1) = omega arith in rw next (drop_at xs i x e)

module _ {A : Type 0} (p : A → Bool) (xs : List A) (i : ℕ) where
  step : (x : A) → slice_get xs i ≡ Some x → first_from p i (drop i xs) ≡ cond (p x) (Some i) (first_from p (i + 1) (drop (i + 1) xs))
  step x at = let next : suc i ≡ i + 1 = omega arith in ap (first_from p i) (drop_at xs i x at) ∙ ap (λ k. cond (p x) (Some i) (first_from p k (drop (i + 1) xs))) next

  pub here : (x : A) → slice_get xs i ≡ Some x → p x ≡ true → first_from p i (drop i xs) ≡ Some i
  here x at passes = step x at ∙ ap (λ b. cond b (Some i) (first_from p (i + 1) (drop (i + 1) xs))) passes

  pub not_here : (x : A) → slice_get xs i ≡ Some x → p x ≡ false → first_from p i (drop i xs) ≡ first_from p (i + 1) (drop (i + 1) xs)
  not_here x at fails = step x at ∙ ap (λ b. cond b (Some i) (first_from p (i + 1) (drop (i + 1) xs))) fails

pub no_more : {A : Type 0} (p : A → Bool) (xs : List A) (i : ℕ) → length xs ≤ i → first_from p i (drop i xs) ≡ None
no_more p xs i past = ap (first_from p i) (gone xs i past)
  where
    gone : {A : Type 0} (xs : List A) (i : ℕ) → length xs ≤ i → drop i xs ≡ []
    gone [] zero h = refl
    gone [] (suc i) h = refl
    gone (x ∷ xs) zero h = absurd (omega arith)
    gone (x ∷ xs) (suc i) h = gone xs i (omega arith)
