-- Laws of the next row that passes a test, among own rows and those of a table.
use Rattle.std.proofs.Common.{◌≡◌, ℕ, zero, suc, ◌+◌, ◌-◌, ◌<◌, ◌≤◌, Bool, true, false, cond, Some, None, List, [], ◌∷◌, map, drop, slice_get, refl, sym, ap, ◌∙◌, arith}
use Rattle.std.specs.declared.cmp.Ordering.{Ordering}
use Rattle.std.specs.Cmp.{IsTotalOrder}
use Rattle.std.specs.FinMap.{FinMap, IsAntisymmetric, entries, get, values}
use Rattle.own_rows.specs.Ranks.{rank}
use Rattle.own_rows.specs.Next.{first_from}
use Rattle.own_rows.proofs.RankLaws.{at_its_rank, entry_there, its_rank}

-- lists

-- the first that passes, by its place
pub record IsFirstAt {A : Type 0} (p : A → Bool) (xs : List A) (from i : ℕ) : Type 0 where
  pub x : A
  pub at : slice_get xs i ≡ Some x
  pub passes : p x ≡ true
  pub from_there : from ≤ i
  pub others : (j : ℕ) (y : A) → from ≤ j → j < i → slice_get xs j ≡ Some y → p y ≡ false

-- none passes
abbrev pub NonePasses : {A : Type 0} → (A → Bool) → List A → ℕ → Type 0
NonePasses {A} p xs from = (j : ℕ) (y : A) → from ≤ j → slice_get xs j ≡ Some y → p y ≡ false

dropped_at : {A : Type 0} (xs : List A) (n i : ℕ) → slice_get (drop n xs) i ≡ slice_get xs (n + i)
dropped_at xs zero i = let same : zero + i ≡ i = omega arith in ap (slice_get xs) (sym same)
dropped_at [] (suc n) i = refl
dropped_at (y ∷ xs) (suc n) i = let next : suc n + i ≡ suc (n + i) = omega arith in rw next (dropped_at xs n i)

module _ {A : Type 0} (p : A → Bool) where
  -- what the first place says of a list that begins at place n
  first_of : (xs : List A) (n i : ℕ) → first_from p n xs ≡ Some i → (j : ℕ) × (x : A) × (i ≡ n + j) × (slice_get xs j ≡ Some x) × (p x ≡ true) × ((l : ℕ) (y : A) → l < j → slice_get xs l ≡ Some y → p y ≡ false)
  first_of [] n i e = cc
  first_of (x ∷ xs) n i e = by (p x) refl (first_of xs (suc n) i) e
    where
      by : (b : Bool) → p x ≡ b
          → (first_from p (suc n) xs ≡ Some i → (j : ℕ) × (z : A) × (i ≡ suc n + j) × (slice_get xs j ≡ Some z) × (p z ≡ true) × ((l : ℕ) (y : A) → l < j → slice_get xs l ≡ Some y → p y ≡ false))
          → cond b (Some n) (first_from p (suc n) xs) ≡ Some i
          → (j : ℕ) × (z : A) × (i ≡ n + j) × (slice_get (x ∷ xs) j ≡ Some z) × (p z ≡ true) × ((l : ℕ) (y : A) → l < j → slice_get (x ∷ xs) l ≡ Some y → p y ≡ false)
      by true passes later e = let same : n ≡ i = cc in (0, x, sym same ∙ omega arith, refl, passes, λ l y lt at. absurd (omega arith))
      by false fails later e =
          let r = later e in
          (suc r.0, r.1, r.2 ∙ omega arith, r.3, r.4, before r.0 r.5)
        where
          before : (j : ℕ) → ((l : ℕ) (y : A) → l < j → slice_get xs l ≡ Some y → p y ≡ false) → (l : ℕ) (y : A) → l < suc j → slice_get (x ∷ xs) l ≡ Some y → p y ≡ false
          before j h zero y lt at = let same : x ≡ y = cc in ap p (sym same) ∙ fails
          before j h (suc l) y lt at = h l y (omega arith) at

  none_of : (xs : List A) (n : ℕ) → first_from p n xs ≡ None → (l : ℕ) (y : A) → slice_get xs l ≡ Some y → p y ≡ false
  none_of [] n e l y at = cc
  none_of (x ∷ xs) n e l y at = by (p x) refl (none_of xs (suc n)) e l at
    where
      by : (b : Bool) → p x ≡ b → (first_from p (suc n) xs ≡ None → (l : ℕ) (y : A) → slice_get xs l ≡ Some y → p y ≡ false) → cond b (Some n) (first_from p (suc n) xs) ≡ None → (l : ℕ) → slice_get (x ∷ xs) l ≡ Some y → p y ≡ false
      by true passes later e l at = cc
      by false fails later e zero at = let same : x ≡ y = cc in ap p (sym same) ∙ fails
      by false fails later e (suc l) at = later e l y at

  is_first : (xs : List A) (n j : ℕ) (x : A) → slice_get xs j ≡ Some x → p x ≡ true → ((l : ℕ) (y : A) → l < j → slice_get xs l ≡ Some y → p y ≡ false) → first_from p n xs ≡ Some (n + j)
  is_first [] n j x at passes before = cc
  is_first (y ∷ xs) n zero x at passes before =
      let same : y ≡ x = cc in let here : n + zero ≡ n = omega arith in
      ap (λ b. cond b (Some n) (first_from p (suc n) xs)) (ap p same ∙ passes) ∙ ap Some (sym here)
  is_first (y ∷ xs) n (suc j) x at passes before =
      let next : suc n + j ≡ n + suc j = omega arith in
      ap (λ b. cond b (Some n) (first_from p (suc n) xs)) (before zero y (omega arith) refl)
      ∙ is_first xs (suc n) j x at passes (λ l z lt e. before (suc l) z (omega arith) e) ∙ ap Some next

  is_none : (xs : List A) (n : ℕ) → ((l : ℕ) (y : A) → slice_get xs l ≡ Some y → p y ≡ false) → first_from p n xs ≡ None
  is_none [] n fails = refl
  is_none (y ∷ xs) n fails = ap (λ b. cond b (Some n) (first_from p (suc n) xs)) (fails zero y refl) ∙ is_none xs (suc n) (λ l z e. fails (suc l) z e)

  module _ (xs : List A) (from : ℕ) where
    pub first_says : (i : ℕ) → first_from p from (drop from xs) ≡ Some i → IsFirstAt p xs from i
    first_says i e =
        let r = first_of (drop from xs) from i e in
        record {
          x = r.1;
          at = ap (slice_get xs) r.2 ∙ sym (dropped_at xs from r.0) ∙ r.3;
          passes = r.4;
          from_there = let same = r.2 in omega arith;
          others = λ j y le lt at.
              let place : from + (j - from) ≡ j = omega arith in
              let same = r.2 in
              r.5 (j - from) y (omega arith) (dropped_at xs from (j - from) ∙ ap (slice_get xs) place ∙ at);
        }

    pub none_says : first_from p from (drop from xs) ≡ None → NonePasses p xs from
    none_says e j y le at =
        let place : from + (j - from) ≡ j = omega arith in
        none_of (drop from xs) from e (j - from) y (dropped_at xs from (j - from) ∙ ap (slice_get xs) place ∙ at)

    pub first_said : (i : ℕ) → IsFirstAt p xs from i → first_from p from (drop from xs) ≡ Some i
    first_said i f =
        let le = f.from_there in
        let place : from + (i - from) ≡ i = omega arith in
        is_first (drop from xs) from (i - from) f.x (dropped_at xs from (i - from) ∙ ap (slice_get xs) place ∙ f.at) f.passes
        (λ l y lt at. f.others (from + l) y (omega arith) (omega arith) (sym (dropped_at xs from l) ∙ at)) ∙ ap Some place

    pub none_said : NonePasses p xs from → first_from p from (drop from xs) ≡ None
    none_said none = is_none (drop from xs) from (λ l y at. none (from + l) y (omega arith) (sym (dropped_at xs from l) ∙ at))

-- places of values and of entries

mapped_at : {A B : Type 0} (f : A → B) (xs : List A) (i : ℕ) (x : A) → slice_get xs i ≡ Some x → slice_get (map f xs) i ≡ Some (f x)
mapped_at f [] i x e = cc
mapped_at f (y ∷ xs) zero x e = let same : y ≡ x = cc in ap (λ z. Some (f z)) same
mapped_at f (y ∷ xs) (suc i) x e = mapped_at f xs i x e

unmapped_at : {A B : Type 0} (f : A → B) (xs : List A) (i : ℕ) (y : B) → slice_get (map f xs) i ≡ Some y → (x : A) × (slice_get xs i ≡ Some x) × (f x ≡ y)
unmapped_at f [] i y e = cc
unmapped_at f (x ∷ xs) zero y e = let same : f x ≡ y = cc in (x, refl, same)
unmapped_at f (x ∷ xs) (suc i) y e = unmapped_at f xs i y e

module _ {K X : Type 0} {R : K → K → Ordering} (o : IsTotalOrder R) (exact : IsAntisymmetric R) where
  -- a row's place is the rank of its key
  pub value_at_rank : (m : FinMap R X) (k : K) (x : X) → get m k ≡ Some x → slice_get (values m) (rank m k) ≡ Some x
  value_at_rank m k x is = mapped_at (λ e. e.1) (entries m) (rank m k) (k, x) (at_its_rank o exact m k x is)

  pub value_entry : (m : FinMap R X) (i : ℕ) (x : X) → slice_get (values m) i ≡ Some x → (k : K) × (slice_get (entries m) i ≡ Some (k, x))
  value_entry m i x at = let e = unmapped_at (λ z. z.1) (entries m) i x at in (e.0.0, e.1 ∙ ap (λ y. Some (e.0.0, y)) e.2)

  -- the next row of a map that passes, by its key
  pub next_is : (m : FinMap R X) (p : X → Bool) (from : ℕ) (k : K) (x : X) → get m k ≡ Some x → p x ≡ true → from ≤ rank m k
      → ((l : K) (y : X) → get m l ≡ Some y → p y ≡ true → from ≤ rank m l → rank m l < rank m k → ⊥)
      → first_from p from (drop from (values m)) ≡ Some (rank m k)
  next_is m p from k x is passes behind none = first_said p (values m) from (rank m k) (record {
    x = x;
    at = value_at_rank m k x is;
    passes = passes;
    from_there = behind;
    others = λ j y le lt at.
        let e = value_entry m j y at in
        let its = its_rank o exact m j (e.0, y) e.1 in
        untrue (p y) (λ holds. none e.0 y (entry_there o exact m j (e.0, y) e.1).1 holds (omega arith) (omega arith));
  })
    where
      untrue : (b : Bool) → (b ≡ true → ⊥) → b ≡ false
      untrue true h = absurd (h refl)
      untrue false h = refl

  pub next_none : (m : FinMap R X) (p : X → Bool) (from : ℕ) → ((l : K) (y : X) → get m l ≡ Some y → p y ≡ true → from ≤ rank m l → ⊥) → first_from p from (drop from (values m)) ≡ None
  next_none m p from none = none_said p (values m) from (λ j y le at.
      let e = value_entry m j y at in
      let its = its_rank o exact m j (e.0, y) e.1 in
      untrue (p y) (λ holds. none e.0 y (entry_there o exact m j (e.0, y) e.1).1 holds (omega arith)))
    where
      untrue : (b : Bool) → (b ≡ true → ⊥) → b ≡ false
      untrue true h = absurd (h refl)
      untrue false h = refl
