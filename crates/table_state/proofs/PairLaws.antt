-- Laws of what holds of each element of a list, and of each element with each behind it.
use Rattle.std.proofs.Common.{◌≡◌, Bool, true, false, cond, List, [], ◌∷◌, ◌++◌, refl}
use Rattle.std.specs.List.{filter}

abbrev pub Every : {X : Type 0} → (X → Type 0) → List X → Type 0
Every P [] = Unit {0}
Every P (x ∷ xs) = P x × Every P xs

abbrev pub Pairs : {X : Type 0} → (X → X → Type 0) → List X → Type 0
Pairs R [] = Unit {0}
Pairs R (x ∷ xs) = Every (R x) xs × Pairs R xs

pub every_as : {X : Type 0} (P Q : X → Type 0) → ((x : X) → P x → Q x) → (xs : List X) → Every P xs → Every Q xs
every_as P Q f [] h = tt
every_as P Q f (x ∷ xs) h = (f x h.0, every_as P Q f xs h.1)

pub every_append : {X : Type 0} (P : X → Type 0) (xs ys : List X) → Every P xs → Every P ys → Every P (xs ++ ys)
every_append P [] ys h k = k
every_append P (x ∷ xs) ys h k = (h.0, every_append P xs ys h.1 k)

-- a filter keeps elements, each of which passes
pub every_filter : {X : Type 0} (P : X → Type 0) (p : X → Bool) (xs : List X) → Every P xs → Every (λ x. P x × (p x ≡ true)) (filter p xs)
every_filter P p [] h = tt
every_filter {X} P p (x ∷ xs) h = by (p x) refl (every_filter P p xs h.1)
  where
    by : (b : Bool) → p x ≡ b → Every (λ y. P y × (p y ≡ true)) (filter p xs) → Every (λ y. P y × (p y ≡ true)) (cond b (x ∷ filter p xs) (filter p xs))
    by true is rest = ((h.0, is), rest)
    by false is rest = rest

pub pairs_filter : {X : Type 0} (R : X → X → Type 0) (p : X → Bool) (xs : List X) → Pairs R xs → Pairs R (filter p xs)
pairs_filter R p [] h = tt
pairs_filter R p (x ∷ xs) h = by (p x) (pairs_filter R p xs h.1) (every_as (λ y. R x y × (p y ≡ true)) (R x) (λ y both. both.0) (filter p xs) (every_filter (R x) p xs h.0))
  where
    by : (b : Bool) → Pairs R (filter p xs) → Every (R x) (filter p xs) → Pairs R (cond b (x ∷ filter p xs) (filter p xs))
    by true rest first = (first, rest)
    by false rest first = rest
