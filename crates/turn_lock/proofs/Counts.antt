-- Beginnings of lists, places_from, and sums over views.
use Rattle.std.proofs.Common.{All, ◌≡◌, ◌≢◌, ℕ, zero, suc, ◌+◌, ◌<◌, ◌≤◌, ◌==◌, if◌then◌else◌, List, [], ◌∷◌, ◌++◌, length, drop, set, sym, refl, ap, ◌∙◌, arith, append_assoc, append-nil}
use mathlib.Core.Option.{some, some-injective, some-ne-none}
use mathlib.Core.List.{IsPrefix}
use mathlib.Core.Logic.{dite}
use native.Mathlib.Decide.{ℕ_discrete}
use lib.ListN.{get_elem?}
use Rattle.std.proofs.lemmas.Bool.Decides.{nat_tests}
use Rattle.turn_lock.specs.Places.{occurrences, total, places_from, new_places, AllBegin}

module _ {A : Type 0} where
  -- one element changes, and the sum by as much
  pub total_set : (f : A → ℕ) (xs : List A) (i : ℕ) (v w : A) → get_elem? xs i ≡ some v → total f (set xs i w) + f v ≡ total f xs + f w
  total_set f [] i v w at = absurd (some-ne-none v (sym at))
  total_set f (x ∷ xs) zero v w at = let e : f x ≡ f v = ap f (some-injective x v at) in omega arith
  total_set f (x ∷ xs) (suc i) v w at = let e = total_set f xs i v w at in omega arith

  -- one element more
  pub total_snoc : (f : A → ℕ) (xs : List A) (w : A) → total f (xs ++ w ∷ []) ≡ total f xs + f w
  total_snoc f [] w = omega arith
  total_snoc f (x ∷ xs) w = let e = total_snoc f xs w in omega arith

  -- where each element has one, the sum is the length
  pub total_each : (f : A → ℕ) (xs : List A) → All (λ x. f x ≡ 1) xs → total f xs ≡ length xs
  total_each f [] one = refl
  total_each f (x ∷ xs) one = let here : f x ≡ 1 = one 0 x (omega arith) in let rest = total_each f xs (λ k d less. one (suc k) d (omega arith)) in omega arith

  -- no element has more than the sum
  pub total_least : (f : A → ℕ) (xs : List A) (i : ℕ) (v : A) → get_elem? xs i ≡ some v → f v ≤ total f xs
  total_least f [] i v at = absurd (some-ne-none v (sym at))
  total_least f (x ∷ xs) zero v at = let e : f x ≡ f v = ap f (some-injective x v at) in omega arith
  total_least f (x ∷ xs) (suc i) v at = let e = total_least f xs i v at in omega arith

  -- where one element has all of p, and what has no p has no f, that one has all of f
  pub total_all : (p f : A → ℕ) (xs : List A) → ((j : ℕ) (u : A) → get_elem? xs j ≡ some u → p u ≡ 0 → f u ≡ 0) → total p xs ≡ 0 → total f xs ≡ 0
  total_all p f [] idle none = refl
  total_all p f (x ∷ xs) idle none = let a : f x ≡ 0 = idle 0 x refl (omega arith) in let b = total_all p f xs (λ j u. idle (suc j) u) (omega arith) in omega arith

  -- so where one element has all of p, it has all of f
  pub total_one : (p f : A → ℕ) (xs : List A) (i : ℕ) (v : A) → ((j : ℕ) (u : A) → get_elem? xs j ≡ some u → p u ≡ 0 → f u ≡ 0) → get_elem? xs i ≡ some v → total p xs ≡ p v → total f xs ≡ f v
  total_one p f [] i v idle at all = absurd (some-ne-none v (sym at))
  total_one p f (x ∷ xs) zero v idle at all =
      let e : f x ≡ f v = ap f (some-injective x v at) in
      let g : p x ≡ p v = ap p (some-injective x v at) in
      let b = total_all p f xs (λ j u. idle (suc j) u) (omega arith) in omega arith
  total_one p f (x ∷ xs) (suc i) v idle at all =
      let l = total_least p xs i v at in
      let a : f x ≡ 0 = idle 0 x refl (omega arith) in
      let b = total_one p f xs i v (λ j u. idle (suc j) u) at (omega arith) in omega arith

module _ {A : Type 0} where
  -- and the others have no p
  pub total_other : (p : A → ℕ) (xs : List A) (i j : ℕ) (v u : A) → get_elem? xs i ≡ some v → get_elem? xs j ≡ some u → j ≢ i → total p xs ≡ p v → p u ≡ 0
  total_other p [] i j v u at there apart all = absurd (some-ne-none v (sym at))
  total_other p (x ∷ xs) zero zero v u at there apart all = absurd (apart refl)
  total_other p (x ∷ xs) zero (suc j) v u at there apart all =
      let g : p x ≡ p v = ap p (some-injective x v at) in
      let l = total_least p xs j u there in omega arith
  total_other p (x ∷ xs) (suc i) zero v u at there apart all =
      let g : p x ≡ p u = ap p (some-injective x u there) in
      let l = total_least p xs i v at in omega arith
  total_other p (x ∷ xs) (suc i) (suc j) v u at there apart all =
      let l = total_least p xs i v at in
      total_other p xs i j v u at there (λ e. apart (ap suc e)) (omega arith)

  -- what stands at a place stands inside the list
  pub at_inside : (xs : List A) (i : ℕ) (a : A) → get_elem? xs i ≡ some a → i < length xs
  at_inside [] i a at = absurd (some-ne-none a (sym at))
  at_inside (x ∷ xs) zero a at = omega arith
  at_inside (x ∷ xs) (suc i) a at = let l = at_inside xs i a at in omega arith

  -- one thing stands at a place
  pub at_once : (xs : List A) (i : ℕ) (a b : A) → get_elem? xs i ≡ some a → get_elem? xs i ≡ some b → a ≡ b
  at_once xs i a b at there = some-injective a b (sym at ∙ there)

-- a number is counted where it is met
there : (n k : ℕ) → n ≡ k → (let one : ℕ = if n == k then 1 else 0 in one) ≡ 1
there n k same = grind (arith, nat_tests)

-- and nowhere else
not_there : (n k : ℕ) → n ≢ k → (let one : ℕ = if n == k then 1 else 0 in one) ≡ 0
not_there n k apart = grind (arith, nat_tests)

-- counts add up
pub occurrences-append : (k : ℕ) (xs ys : List ℕ) → occurrences k (xs ++ ys) ≡ occurrences k xs + occurrences k ys
occurrences-append k [] ys = omega arith
occurrences-append k (x ∷ xs) ys = let e = occurrences-append k xs ys in omega arith

module _ {E : Type 0} where
  -- places of a list in two parts
  pub places_from-append : (n : ℕ) (xs ys : List E) → places_from n (xs ++ ys) ≡ places_from n xs ++ places_from (n + length xs) ys
  places_from-append n [] ys = ap (λ (k : ℕ). places_from k ys) (omega arith)
  places_from-append n (x ∷ xs) ys = ap (λ l. n ∷ l) (places_from-append (suc n) xs ys ∙ ap (λ (k : ℕ). places_from (suc n) xs ++ places_from k ys) (omega arith))

  -- what is left without the front
  pub drop_front : (xs ys : List E) → drop (length xs) (xs ++ ys) ≡ ys
  drop_front [] ys = refl
  drop_front (x ∷ xs) ys = drop_front xs ys

  -- lengths add up
  pub length_front : (xs ys : List E) → length (xs ++ ys) ≡ length xs + length ys
  length_front [] ys = omega arith
  length_front (x ∷ xs) ys = let e = length_front xs ys in omega arith

  -- a list begins itself
  pub begins_same : (l : List E) → IsPrefix l l
  begins_same l = ([], append-nil l)

  -- a beginning of a beginning
  pub begins_more : (a b c : List E) → IsPrefix a b → IsPrefix b c → IsPrefix a c
  begins_more a b c p q = (p.0 ++ q.0, sym (append_assoc a p.0 q.0) ∙ ap (λ l. l ++ q.0) p.1 ∙ q.1)

  -- what begins a list begins each list that goes on from it
  pub all_more : (xs : List (List E)) (l m : List E) → IsPrefix l m → AllBegin xs l → AllBegin xs m
  all_more [] l m p h = tt
  all_more (x ∷ xs) l m p h = (begins_more x l m h.0 p, all_more xs l m p h.1)

  -- beginnings from two lists of them
  pub all_append : (xs ys : List (List E)) (l : List E) → AllBegin xs l → AllBegin ys l → AllBegin (xs ++ ys) l
  all_append [] ys l h k = k
  all_append (x ∷ xs) ys l h k = (h.0, all_append xs ys l h.1 k)

  -- and taken apart at one of them
  pub all_split : (xs : List (List E)) (y : List E) (ys : List (List E)) (l : List E) → AllBegin (xs ++ y ∷ ys) l → AllBegin xs l × IsPrefix y l × AllBegin ys l
  all_split [] y ys l h = (tt, h.0, h.1)
  all_split (x ∷ xs) y ys l h = let t = all_split xs y ys l h.1 in ((h.0, t.0), t.1, t.2)

  -- the new places, where the rest is in sight
  new_places-begun : (a r : List E) → new_places a (a ++ r) ≡ places_from (length a) r
  new_places-begun a r = ap (places_from (length a)) (drop_front a r)

  -- new places of two steps
  pub new_places-more : (a b c : List E) (k : ℕ) → IsPrefix a b → IsPrefix b c → occurrences k (new_places a c) ≡ occurrences k (new_places a b) + occurrences k (new_places b c)
  new_places-more a b c k p q =
      let ab : a ++ p.0 ≡ b = p.1 in
      let bc : (a ++ p.0) ++ q.0 ≡ c = ap (λ l. l ++ q.0) p.1 ∙ q.1 in
      let whole : new_places a c ≡ places_from (length a) (p.0 ++ q.0) = ap (new_places a) (sym bc ∙ append_assoc a p.0 q.0) ∙ new_places-begun a (p.0 ++ q.0) in
      let first : new_places a b ≡ places_from (length a) p.0 = ap (new_places a) (sym ab) ∙ new_places-begun a p.0 in
      let second : new_places b c ≡ places_from (length a + length p.0) q.0 = ap (new_places b) (sym q.1) ∙ new_places-begun b q.0 ∙ ap (λ (n : ℕ). places_from n q.0) (ap length (sym ab) ∙ length_front a p.0) in
      ap (occurrences k) (whole ∙ places_from-append (length a) p.0 q.0) ∙ occurrences-append k (places_from (length a) p.0) (places_from (length a + length p.0) q.0) ∙ (λ i. occurrences k (sym first i) + occurrences k (sym second i))

  -- a list that stays has no new place
  pub new_places-none : (a : List E) → new_places a a ≡ []
  new_places-none a = ap (new_places a) (sym (append-nil a)) ∙ new_places-begun a []

-- no place below n is among the places from n on
places_from-below : {E : Type 0} (n : ℕ) (xs : List E) (k : ℕ) → k < n → occurrences k (places_from n xs) ≡ 0
places_from-below n [] k less = refl
places_from-below n (x ∷ xs) k less =
    let rest = places_from-below (suc n) xs k (omega arith) in
    let other = not_there n k (λ same. omega arith) in omega arith

-- and each of them is there once
places_from-inside : {E : Type 0} (n : ℕ) (xs : List E) (k : ℕ) → n ≤ k → k < n + length xs → occurrences k (places_from n xs) ≡ 1
places_from-inside n [] k from less = absurd (omega arith)
places_from-inside n (x ∷ xs) k from less = dite (ℕ_discrete n k)
    (λ here.
    let rest = places_from-below (suc n) xs k (omega arith) in
    let this = there n k here in omega arith)
    (λ apart.
    let rest = places_from-inside (suc n) xs k (omega arith) (omega arith) in
    let other = not_there n k apart in omega arith)

-- each place past a beginning of a list is new once
pub new_places-once : {E : Type 0} (old new : List E) (k : ℕ) → IsPrefix old new → length old ≤ k → k < length new → occurrences k (new_places old new) ≡ 1
new_places-once old new k begins from less =
    let rest = begins.0 in
    let whole : length new ≡ length old + length rest = ap length (sym begins.1) ∙ length_front old rest in
    let places : new_places old new ≡ places_from (length old) rest = ap (new_places old) (sym begins.1) ∙ ap (places_from (length old)) (drop_front old rest) in
    ap (occurrences k) places ∙ places_from-inside (length old) rest k from (omega arith)
