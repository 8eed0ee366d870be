-- Laws of going from one row that refers to a key to the next.
use Rattle.std.proofs.Common.{◌≡◌, ℕ, zero, suc, ◌+◌, ◌<◌, ◌≤◌, Bool, true, false, cond, Some, None, Result, Ok, List, [], ◌∷◌, ◌++◌, length, take, drop, slice_get, refl, sym, ap, ◌∙◌, arith}
use Rattle.std.specs.List.{filter, flat_map}
use Rattle.std.proofs.lemmas.Grind.{flat_map-append}
use Rattle.std.proofs.lemmas.List.{take-append-drop, take_all}
use Rattle.std.proofs.lemmas.List.Elements.{filter-append}
use Rattle.std.proofs.lemmas.Option.{slice_get_within}
use Rattle.table_state.specs.ScanChildren.{first_from}
use Rattle.evaluator.specs.declared.capped.Capped.{Capped}
use Rattle.expressions.specs.row_types.specs.declared.rule.Rule.{Rule}
use Rattle.evaluator.specs.Capping.{extended}
use Rattle.evaluator.specs.Rules.{TakenBefore, TakesIn, added, each}
use Rattle.evaluator.proofs.RuleLaws.{added-nil, nil-added}
use Rattle.evaluator.proofs.CapLaws.{append-none, extended-append}

-- the first element that passes, j behind the beginning
record IsFirst {X : Type 0} (p : X → Bool) (i : ℕ) (ys : List X) (k : ℕ) : Type 0 where
  j : ℕ
  x : X
  place : k ≡ i + j
  at : slice_get ys j ≡ Some x
  only : filter p (take (j + 1) ys) ≡ x ∷ []

first_is : {X : Type 0} (p : X → Bool) (i : ℕ) (ys : List X) (k : ℕ) → first_from p i ys ≡ Some k → IsFirst p i ys k
first_is p i [] k e = cc
first_is {X} p i (y ∷ ys) k e = by (p y) refl (first_is p (suc i) ys k) e
  where
    by : (b : Bool) → p y ≡ b → (first_from p (suc i) ys ≡ Some k → IsFirst p (suc i) ys k) → cond b (Some i) (first_from p (suc i) ys) ≡ Some k → IsFirst p i (y ∷ ys) k
    by true passes later e =
        let same : i ≡ k = cc in
        let alone : filter p (y ∷ []) ≡ y ∷ [] = rw passes refl in
        record { j = 0; x = y; place = sym same ∙ omega arith; at = refl; only = alone }
    by false fails later e =
        let rest = later e in
        let next : suc rest.j + 1 ≡ suc (rest.j + 1) = omega arith in
        let skips : filter p (y ∷ take (rest.j + 1) ys) ≡ filter p (take (rest.j + 1) ys) = rw fails refl in
        record { j = suc rest.j; x = rest.x; place = rest.place ∙ omega arith; at = rest.at; only = ap (λ n. filter p (take n (y ∷ ys))) next ∙ skips ∙ rest.only }

none_is : {X : Type 0} (p : X → Bool) (i : ℕ) (ys : List X) → first_from p i ys ≡ None → filter p ys ≡ []
none_is p i [] e = refl
none_is p i (y ∷ ys) e = by (p y) refl (none_is p (suc i) ys) e
  where
    by : (b : Bool) → p y ≡ b → (first_from p (suc i) ys ≡ None → filter p ys ≡ []) → cond b (Some i) (first_from p (suc i) ys) ≡ None → filter p (y ∷ ys) ≡ []
    by true passes later e = cc
    by false fails later e = let skips : filter p (y ∷ ys) ≡ filter p ys = rw fails refl in skips ∙ later e

nothing : {X : Type 0} (k : ℕ) → take {A = X} k [] ≡ []
nothing zero = refl
nothing (suc k) = refl

take-plus : {X : Type 0} (n m : ℕ) (xs : List X) → take (n + m) xs ≡ take n xs ++ take m (drop n xs)
take-plus zero m xs = ap (λ k. take k xs) (omega arith)
take-plus (suc n) m [] = nothing (suc n + m) ∙ sym (nothing m)
take-plus (suc n) m (x ∷ xs) = let next : suc n + m ≡ suc (n + m) = omega arith in rw next (ap (λ l. x ∷ l) (take-plus n m xs))

slice-plus : {X : Type 0} (n j : ℕ) (xs : List X) → slice_get xs (n + j) ≡ slice_get (drop n xs) j
slice-plus zero j xs = ap (slice_get xs) (omega arith)
slice-plus (suc n) j [] = refl
slice-plus (suc n) j (x ∷ xs) = let next : suc n + j ≡ suc (n + j) = omega arith in rw next (slice-plus n j xs)

module _ {X : Type 0} (p : X → Bool) (xs : List X) (from : ℕ) where
  -- the row at that place is there
  pub place_within : (k : ℕ) → first_from p from (drop from xs) ≡ Some k → k < length xs
  place_within k e =
      let first = first_is p from (drop from xs) k e in
      slice_get_within xs k first.x (ap (slice_get xs) first.place ∙ slice-plus from first.j xs ∙ first.at)

  pub place_behind : (k : ℕ) → first_from p from (drop from xs) ≡ Some k → from ≤ k
  place_behind k e = let first = first_is p from (drop from xs) k e in let place = first.place in omega arith

module _ {X Y : Type 0} (f : X → List Y) (p : X → Bool) (xs : List X) (from : ℕ) where
  -- what the next one that passes adds
  pub child_more : (k : ℕ) → first_from p from (drop from xs) ≡ Some k → (x : X) → slice_get xs k ≡ Some x → (start old new : Capped Y) → old ≡ extended start (flat_map f (filter p (take from xs))) → new ≡ extended old (f x)
      → new ≡ extended start (flat_map f (filter p (take (k + 1) xs)))
  child_more k e x at start old new so_far step =
      let first = first_is p from (drop from xs) k e in
      let there : Some first.x ≡ Some x = sym first.at ∙ sym (slice-plus from first.j xs) ∙ ap (slice_get xs) (sym first.place) ∙ at in
      let same : first.x ≡ x = cc in
      let place = first.place in
      let sum : k + 1 ≡ from + (first.j + 1) = omega arith in
      let passed : filter p (take (k + 1) xs) ≡ filter p (take from xs) ++ (x ∷ []) =
      ap (λ n. filter p (take n xs)) sum ∙ ap (filter p) (take-plus from (first.j + 1) xs) ∙ filter-append p (take from xs) (take (first.j + 1) (drop from xs)) ∙ ap (λ l. filter p (take from xs) ++ l) (first.only ∙ ap (λ z. z ∷ []) same) in
      let more : flat_map f (filter p (take (k + 1) xs)) ≡ flat_map f (filter p (take from xs)) ++ f x =
      ap (flat_map f) passed ∙ flat_map-append f (filter p (take from xs)) (x ∷ []) ∙ ap (λ l. flat_map f (filter p (take from xs)) ++ l) (append-none (f x)) in
      step ∙ ap (λ c. extended c (f x)) so_far ∙ sym (extended-append start (flat_map f (filter p (take from xs))) (f x)) ∙ ap (extended start) (sym more)

  -- where none is left, all have been there
  pub child_none : first_from p from (drop from xs) ≡ None → (start old : Capped Y) → old ≡ extended start (flat_map f (filter p (take from xs))) → old ≡ extended start (flat_map f (filter p xs))
  child_none e start old so_far =
      let whole : filter p xs ≡ filter p (take from xs) =
      ap (filter p) (sym (take-append-drop from xs)) ∙ filter-append p (take from xs) (drop from xs) ∙ ap (λ l. filter p (take from xs) ++ l) (none_is p from (drop from xs) e) ∙ append-none (filter p (take from xs)) in
      so_far ∙ ap (λ l. extended start (flat_map f l)) (sym whole)

  pub child_end : length xs ≤ from → (start old : Capped Y) → old ≡ extended start (flat_map f (filter p (take from xs))) → old ≡ extended start (flat_map f (filter p xs))
  child_end past start old so_far = so_far ∙ ap (λ l. extended start (flat_map f (filter p l))) (take_all from xs past)

-- elements that don't pass give nothing

module _ {X A : Type 0} (f : X → Result (List A) Rule) (p : X → Bool) where
  skip_to : (ys : List X) (i k : ℕ) → ((j : ℕ) (x : X) → slice_get ys j ≡ Some x → p x ≡ false → f x ≡ Ok []) → first_from p i ys ≡ Some k → (j : ℕ) × (k ≡ i + j) × (each f ys ≡ each f (drop j ys))
  skip_to [] i k none e = cc
  skip_to (y ∷ ys) i k none e = by (p y) refl (skip_to ys (suc i) k (λ j x at. none (suc j) x at)) e
    where
      by : (b : Bool) → p y ≡ b → (first_from p (suc i) ys ≡ Some k → (j : ℕ) × (k ≡ suc i + j) × (each f ys ≡ each f (drop j ys))) → cond b (Some i) (first_from p (suc i) ys) ≡ Some k
          → (j : ℕ) × (k ≡ i + j) × (each f (y ∷ ys) ≡ each f (drop j (y ∷ ys)))
      by true passes later e = let same : i ≡ k = cc in (0, sym same ∙ omega arith, refl)
      by false fails later e =
          let rest = later e in
          (suc rest.0, rest.1 ∙ omega arith, ap (λ r. added r (each f ys)) (none zero y refl fails) ∙ nil-added (each f ys) ∙ rest.2)

  skip_all : (ys : List X) (i : ℕ) → ((j : ℕ) (x : X) → slice_get ys j ≡ Some x → p x ≡ false → f x ≡ Ok []) → first_from p i ys ≡ None → each f ys ≡ Ok []
  skip_all [] i none e = refl
  skip_all (y ∷ ys) i none e = by (p y) refl (skip_all ys (suc i) (λ j x at. none (suc j) x at)) e
    where
      by : (b : Bool) → p y ≡ b → (first_from p (suc i) ys ≡ None → each f ys ≡ Ok []) → cond b (Some i) (first_from p (suc i) ys) ≡ None → each f (y ∷ ys) ≡ Ok []
      by true passes later e = cc
      by false fails later e = ap (λ r. added r (each f ys)) (none zero y refl fails) ∙ nil-added (each f ys) ∙ later e

drop-plus : {X : Type 0} (n m : ℕ) (xs : List X) → drop m (drop n xs) ≡ drop (n + m) xs
drop-plus zero m xs = ap (λ k. drop k xs) (omega arith)
drop-plus (suc n) m [] = emptied m ∙ sym (emptied (suc n + m))
  where
    emptied : {X : Type 0} (k : ℕ) → drop {A = X} k [] ≡ []
    emptied zero = refl
    emptied (suc k) = refl
drop-plus (suc n) m (x ∷ xs) = let next : suc n + m ≡ suc (n + m) = omega arith in rw next (drop-plus n m xs)

module _ {S X A : Type 0} (after : S → A → S) (f : X → Result (List A) Rule) (p : X → Bool) (xs : List X) (none : (j : ℕ) (x : X) → slice_get xs j ≡ Some x → p x ≡ false → f x ≡ Ok []) (from : ℕ) (start old : S) (so_far : TakenBefore after f xs from start old) where
  none_behind : (j : ℕ) (x : X) → slice_get (drop from xs) j ≡ Some x → p x ≡ false → f x ≡ Ok []
  none_behind j x at = none (from + j) x (slice-plus from j xs ∙ at)

  -- up to the next one that passes
  pub skipped : (k : ℕ) → first_from p from (drop from xs) ≡ Some k → TakenBefore after f xs k start old
  skipped k e =
      let (more, whole, is) = so_far in
      let (j, place, same) = skip_to f p (drop from xs) from k none_behind e in
      (more, whole ∙ ap (added (Ok more)) (same ∙ ap (each f) (drop-plus from j xs) ∙ ap (λ n. each f (drop n xs)) (sym place)), is)

  -- where none is left
  pub skipped_all : first_from p from (drop from xs) ≡ None → (u : Unit {0}) → TakesIn after (each f xs) (Ok u) start old
  skipped_all e u =
      let (more, whole, is) = so_far in
      (more, whole ∙ ap (added (Ok more)) (skip_all f p (drop from xs) from none_behind e) ∙ added-nil (Ok more), is)
