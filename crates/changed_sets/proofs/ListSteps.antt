-- Lists, element by element.
use Rattle.std.proofs.Common.{◌≡◌, ◌<◌, ◌⊎◌, inl, inr, ℕ, zero, suc, ◌+◌, Some, List, [], ◌∷◌, ◌++◌, length, get_or, slice_get, refl, sym, ap, subst, ◌∙◌, arith}

item_at : {A : Type 0} (xs : List A) (i : ℕ) (d : A) → i < length xs → slice_get xs i ≡ Some (get_or xs i d)
item_at [] i d h = absurd (omega arith)
item_at (x ∷ xs) zero d h = refl
item_at (x ∷ xs) (suc i) d h = item_at xs i d (omega arith)

-- the element that a loop has come to
pub found : {A : Type 0} (xs : List A) (i : ℕ) (x : A) → i < length xs → x ≡ get_or xs i x → slice_get xs i ≡ Some x
found xs i x lt is = item_at xs i x lt ∙ ap Some (sym is)

pushed : {X : Type 0} (xs : List X) (x : X) (k : ℕ) (y : X) → slice_get (xs ++ x ∷ []) k ≡ Some y → (slice_get xs k ≡ Some y) ⊎ ((k ≡ length xs) × (x ≡ y))
pushed [] x zero y at = inr (refl, (let same : x ≡ y = cc in same))
pushed [] x (suc k) y at = cc
pushed (z ∷ xs) x zero y at = inl at
pushed (z ∷ xs) x (suc k) y at = later (pushed xs x k y at)
  where
    later : (slice_get xs k ≡ Some y) ⊎ ((k ≡ length xs) × (x ≡ y)) → (slice_get (z ∷ xs) (suc k) ≡ Some y) ⊎ ((suc k ≡ length (z ∷ xs)) × (x ≡ y))
    later (inl e) = inl e
    later (inr e) = inr (ap suc e.0, e.1)

pushed_long : {X : Type 0} (xs : List X) (x : X) → length (xs ++ x ∷ []) ≡ length xs + 1
pushed_long [] x = let one : 1 ≡ 0 + 1 = omega arith in one
pushed_long (y ∷ xs) x = let rest = pushed_long xs x in omega (arith, rest)

-- so many elements, each as it is to be
pub record UpTo {X : Type 0} (P : ℕ → X → Type 0) (n : ℕ) (xs : List X) : Type 0 where
  pub long : length xs ≡ n
  pub each : (k : ℕ) (x : X) → slice_get xs k ≡ Some x → P k x

pub up_none : {X : Type 0} (P : ℕ → X → Type 0) → UpTo P 0 []
up_none P = record { long = refl; each = λ k x at. cc }

pub up_more : {X : Type 0} (P : ℕ → X → Type 0) (n : ℕ) (xs next : List X) (x : X) → UpTo P n xs → next ≡ xs ++ x ∷ [] → P n x → UpTo P (n + 1) next
up_more {X} P n xs next x before is one = record {
  long = ap length is ∙ pushed_long xs x ∙ ap (λ m. m + 1) before.long;
  each = λ k y at. by k y (pushed xs x k y (ap (λ l. slice_get l k) (sym is) ∙ at));
}
  where
    by : (k : ℕ) (y : X) → (slice_get xs k ≡ Some y) ⊎ ((k ≡ length xs) × (x ≡ y)) → P k y
    by k y (inl at) = before.each k y at
    by k y (inr last) = subst (λ m. P m y) (sym (last.0 ∙ before.long)) (subst (P n) last.1 one)
