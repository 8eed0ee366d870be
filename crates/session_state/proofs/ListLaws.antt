-- Laws of lists, of a list and what a reader sees of it, and of pairs in it.
use Rattle.std.proofs.Common.{◌≡◌, ℕ, zero, suc, ◌<◌, ◌≤◌, Bool, true, false, cond, not, ◌||◌, Some, List, [], ◌∷◌, length, map, slice_get, slice_set, nat_eq, refl, ap, subst, ◌∙◌, arith}
use Rattle.std.specs.List.{All, AllPairs, filter, find, list_any}
use Rattle.std.specs.Option.{option_map}
use Rattle.std.proofs.lemmas.Bool.{eqb-true, ne_eqb}
use Rattle.std.proofs.lemmas.List.Elements.{All-cons, All-head, All-map, All-set, All-tail, All-weaker}
use Rattle.std.proofs.lemmas.List.Kept.{AllPairs-cons}
use Rattle.std.proofs.lemmas.Option.{get_or_from_slice_get, slice_get_within}

module _ {A B : Type 0} (v : A → B) where
  pub any_view : (p : A → Bool) (q : B → Bool) (xs : List A) → ((x : A) → p x ≡ q (v x)) → list_any p xs ≡ list_any q (map v xs)
  any_view p q [] same = refl
  any_view p q (x ∷ xs) same = ap (λ b. b || list_any p xs) (same x) ∙ ap (λ b. q (v x) || b) (any_view p q xs same)

  pub find_view : (p : A → Bool) (q : B → Bool) (xs : List A) → All (λ x. p x ≡ q (v x)) xs → option_map v (find p xs) ≡ find q (map v xs)
  find_view p q [] same = refl
  find_view p q (x ∷ xs) same = by (p x) (q (v x)) (All-head (λ y. p y ≡ q (v y)) x xs same) (find_view p q xs (All-tail (λ y. p y ≡ q (v y)) x xs same))
    where
      by : (a b : Bool) → a ≡ b → option_map v (find p xs) ≡ find q (map v xs) → option_map v (cond a (Some x) (find p xs)) ≡ cond b (Some (v x)) (find q (map v xs))
      by true true e r = refl
      by false false e r = r
      by true false e r = cc
      by false true e r = cc

  pub filter_view : (p : A → Bool) (q : B → Bool) (xs : List A) → ((x : A) → p x ≡ q (v x)) → map v (filter p xs) ≡ filter q (map v xs)
  filter_view p q [] same = refl
  filter_view p q (x ∷ xs) same = by (p x) (q (v x)) (same x) (filter_view p q xs same)
    where
      by : (a b : Bool) → a ≡ b → map v (filter p xs) ≡ filter q (map v xs) → map v (cond a (x ∷ filter p xs) (filter p xs)) ≡ cond b (v x ∷ filter q (map v xs)) (filter q (map v xs))
      by true true e r = ap (λ l. v x ∷ l) r
      by false false e r = r
      by true false e r = cc
      by false true e r = cc

  pub All-unmap : (P : B → Type 0) (xs : List A) → All P (map v xs) → All (λ x. P (v x)) xs
  All-unmap P [] all = λ k d within. absurd (omega arith)
  All-unmap P (x ∷ xs) all = All-cons (λ y. P (v y)) x xs (All-head P (v x) (map v xs) all) (All-unmap P xs (All-tail P (v x) (map v xs) all))

module _ {A : Type 0} (R : A → A → Type 0) where
  pub pairs_none : AllPairs R []
  pairs_none i j d lt within = absurd (omega arith)

  pub pairs_tail : (x : A) (xs : List A) → AllPairs R (x ∷ xs) → AllPairs R xs
  pairs_tail x xs pairs i j d lt within = pairs (suc i) (suc j) d (omega arith) (omega arith)

  pub pairs_head : (x : A) (xs : List A) → AllPairs R (x ∷ xs) → All (R x) xs
  pairs_head x xs pairs k d within = pairs zero (suc k) d (omega arith) (omega arith)

  pub pairs_set : (xs : List A) (i : ℕ) (s t : A) → slice_get xs i ≡ Some s → ((y : A) → R s y → R t y) → ((y : A) → R y s → R y t) → AllPairs R xs → AllPairs R (slice_set xs i t)
  pairs_set [] i s t at left right pairs = cc
  pairs_set (x ∷ xs) zero s t at left right pairs =
      let same : x ≡ s = cc in
      AllPairs-cons R t xs (All-weaker (R x) (R t) (λ y r. left y (subst (λ z. R z y) same r)) xs (pairs_head x xs pairs)) (pairs_tail x xs pairs)
  pairs_set (x ∷ xs) (suc i) s t at left right pairs =
      let within = slice_get_within xs i s at in
      let here : R x s = subst (R x) (get_or_from_slice_get xs i s s at) (pairs_head x xs pairs i s within) in
      AllPairs-cons R x (slice_set xs i t) (All-set (R x) xs i t (right x here) (pairs_head x xs pairs)) (pairs_set xs i s t at left right (pairs_tail x xs pairs))

module _ {A B : Type 0} (v : A → B) (R : B → B → Type 0) where
  pub pairs_view : (xs : List A) → AllPairs (λ a b. R (v a) (v b)) xs → AllPairs R (map v xs)
  pairs_view [] pairs = pairs_none R
  pairs_view (x ∷ xs) pairs =
      AllPairs-cons R (v x) (map v xs) (All-map (R (v x)) v xs (pairs_head (λ a b. R (v a) (v b)) x xs pairs)) (pairs_view xs (pairs_tail (λ a b. R (v a) (v b)) x xs pairs))

  pub pairs_unview : (xs : List A) → AllPairs R (map v xs) → AllPairs (λ a b. R (v a) (v b)) xs
  pairs_unview [] pairs = pairs_none (λ a b. R (v a) (v b))
  pairs_unview (x ∷ xs) pairs =
      AllPairs-cons (λ a b. R (v a) (v b)) x xs (All-unmap v (R (v x)) xs (pairs_head R (v x) (map v xs) pairs)) (pairs_unview xs (pairs_tail R (v x) (map v xs) pairs))

-- all numbers below one are there only where the list is as long

module _ {A : Type 0} where
  shorter_or : (p : A → Bool) (xs : List A) → length (filter (λ x. not (p x)) xs) ≤ length xs
  shorter_or p [] = omega arith
  shorter_or p (x ∷ xs) = by (p x) (shorter_or p xs)
    where
      by : (b : Bool) → length (filter (λ y. not (p y)) xs) ≤ length xs → length (cond (not b) (x ∷ filter (λ y. not (p y)) xs) (filter (λ y. not (p y)) xs)) ≤ suc (length xs)
      by true r = omega arith
      by false r = omega arith

  shorter : (p : A → Bool) (xs : List A) → list_any p xs ≡ true → suc (length (filter (λ x. not (p x)) xs)) ≤ length xs
  shorter p [] e = cc
  shorter p (x ∷ xs) e = by (p x) refl e (shorter p xs)
    where
      by : (b : Bool) → p x ≡ b → (b || list_any p xs) ≡ true → (list_any p xs ≡ true → suc (length (filter (λ y. not (p y)) xs)) ≤ length xs) → suc (length (cond (not b) (x ∷ filter (λ y. not (p y)) xs) (filter (λ y. not (p y)) xs))) ≤ suc (length xs)
      by true is e r = let l = shorter_or p xs in omega arith
      by false is e r = let l = r e in omega arith

  still_any : (p q : A → Bool) → ((x : A) → q x ≡ true → p x ≡ false) → (xs : List A) → list_any q xs ≡ true → list_any q (filter (λ x. not (p x)) xs) ≡ true
  still_any p q apart [] e = cc
  still_any p q apart (x ∷ xs) e = by (p x) (q x) refl (apart x) e (still_any p q apart xs)
    where
      by : (a b : Bool) → q x ≡ b → (b ≡ true → a ≡ false) → (b || list_any q xs) ≡ true → (list_any q xs ≡ true → list_any q (filter (λ y. not (p y)) xs) ≡ true) → list_any q (cond (not a) (x ∷ filter (λ y. not (p y)) xs) (filter (λ y. not (p y)) xs)) ≡ true
      by true true is h e r = let bad : true ≡ false = h refl in cc
      by true false is h e r = r e
      by false true is h e r = ap (λ c. c || list_any q (filter (λ y. not (p y)) xs)) is
      by false false is h e r = ap (λ c. c || list_any q (filter (λ y. not (p y)) xs)) is ∙ r e

  pub as_many_as : (number : A → ℕ) (n : ℕ) (xs : List A) → ((k : ℕ) → k < n → list_any (λ x. nat_eq (number x) k) xs ≡ true) → n ≤ length xs
  as_many_as number zero xs all = omega arith
  as_many_as number (suc n) xs all =
      let p : A → Bool = λ x. nat_eq (number x) n in
      let less = shorter p xs (all n (omega arith)) in
      let rest = as_many_as number n (filter (λ x. not (p x)) xs) (λ k lt. still_any p (λ x. nat_eq (number x) k) (λ x e. ne_eqb (number x) n (λ same. let here = eqb-true (number x) k e in absurd (omega arith))) xs (all k (omega arith))) in
      omega arith
