-- A search among the first elements of the chunks, then in one chunk, is a search in the joined list.
use Rattle.std.proofs.Common.{ℕ, ◌≡◌, ◌+◌, ◌-◌, ◌<◌, ◌≤◌, List, [], ◌∷◌, length, get_or, map, true, false, not, Ordering, Less, Equal, Greater, refl, sym, ap, ◌∙◌, subst, arith, suc, inl, inr}
use Rattle.std.specs.List.{HoldsAt}
use Rattle.std.specs.List.Sorted.{IsNonDecreasingBy, IsPartitionPoint, IsPartitionedBy}
use Rattle.std.specs.Ordering.{is_gt, ordering_index}
use Rattle.std.proofs.lemmas.Bool.{cases_lt}
use Rattle.std.proofs.lemmas.List.{get_or-map, get_or_default, length-map}
use Rattle.long_list.specs.Chunks.{joined, begins_up_to, IsCounted}
use Rattle.long_list.proofs.ChunkLaws.{before, before_next, before_all, joined_at, chunk_ends, some_chunk, IsFilled, filled_at}
use Rattle.long_list.proofs.StartLaws.{before_rises, start_at, length_starts}
use Rattle.long_list.proofs.EditLaws.{start_read, chunk_read}

up_to_one : (o : Ordering) → not (is_gt o) ≡ true → ordering_index o ≤ 1
up_to_one Less h = omega arith
up_to_one Equal h = omega arith
up_to_one Greater h = cc

not_greater : (o : Ordering) → ordering_index o ≤ 1 → not (is_gt o) ≡ true
not_greater Less h = refl
not_greater Equal h = refl
not_greater Greater h = absurd (omega arith)

greater : (o : Ordering) → not (is_gt o) ≡ false → o ≡ Greater
greater Less h = cc
greater Equal h = cc
greater Greater h = refl

greater_by_index : (o : Ordering) → 2 ≤ ordering_index o → o ≡ Greater
greater_by_index Less h = absurd (omega arith)
greater_by_index Equal h = absurd (omega arith)
greater_by_index Greater h = refl

less_by_index : (o : Ordering) → ordering_index o ≤ 0 → o ≡ Less
less_by_index Less h = refl
less_by_index Equal h = absurd (omega arith)
less_by_index Greater h = absurd (omega arith)

-- a list with an element has a first one
with_first : {X : Type 0} (xs : List X) → 0 < length xs → (P : Type 0) → (X → P) → P
with_first [] h P f = absurd (omega arith)
with_first (x ∷ xs) h P f = f x

begins_first : {X : Type 0} (order : X → Ordering) (xs : List X) (d : X) → 0 < length xs → begins_up_to order xs ≡ not (is_gt (order (get_or xs 0 d)))
begins_first order [] d h = absurd (omega arith)
begins_first order (x ∷ xs) d h = refl

module _ {X : Type 0} (order : X → Ordering) (cs : List (List X)) (filled : IsFilled cs) where
  -- a chunk's first element is the one that stands behind the chunks before it
  begins : (c : ℕ) → c < length cs → (d : X) → begins_up_to order (get_or cs c []) ≡ not (is_gt (order (get_or (joined cs) (before cs c) d)))
  begins c h d =
      let some = filled_at cs c filled h in
      let place : before cs c + 0 ≡ before cs c = omega arith in
      begins_first order (get_or cs c []) d some
      ∙ ap (λ x. not (is_gt (order x))) (sym (joined_at cs c 0 d h some) ∙ ap (λ n. get_or (joined cs) n d) place)

  first_inside : (c : ℕ) → c < length cs → before cs c < length (joined cs)
  first_inside c h = omega (arith, chunk_ends cs c h, filled_at cs c filled h)

  pub found : (c i : ℕ) → c < length cs → i < length (get_or cs c []) → HoldsAt (λ y. order y ≡ Equal) (get_or cs c []) i → HoldsAt (λ y. order y ≡ Equal) (joined cs) (before cs c + i)
  found c i h k e = λ d. ap order (joined_at cs c i d h k) ∙ e d

  module _ (rising : IsNonDecreasingBy (λ y. ordering_index (order y)) (joined cs)) where
    pub parted : IsPartitionedBy (begins_up_to order) cs
    parted i j d le lt e =
        let hj : get_or cs j d ≡ get_or cs j [] = get_or_default cs j d [] lt in
        let hi : get_or cs i d ≡ get_or cs i [] = get_or_default cs i d [] (omega arith) in
        with_first (get_or cs j []) (filled_at cs j filled lt) _ (λ x.
        let later : ordering_index (order (get_or (joined cs) (before cs j) x)) ≤ 1 =
        up_to_one _ (sym (begins j lt x) ∙ ap (begins_up_to order) (sym hj) ∙ e) in
        let rises = rising (before cs i) (before cs j) x (before_rises cs i j le) (first_inside j lt) in
        ap (begins_up_to order) hi ∙ begins i (omega arith) x ∙ not_greater _ (omega arith))

    pub chunk_rises : (c : ℕ) → c < length cs → IsNonDecreasingBy (λ y. ordering_index (order y)) (get_or cs c [])
    chunk_rises c h i j d le lt =
        let rises = rising (before cs c + i) (before cs c + j) d (omega arith) (omega (arith, chunk_ends cs c h)) in
        let ei = ap (λ x. ordering_index (order x)) (joined_at cs c i d h (omega arith)) in
        let ej = ap (λ x. ordering_index (order x)) (joined_at cs c j d h lt) in
        omega arith

    module _ (a : ℕ) (bound : a ≤ length cs) (point : IsPartitionPoint (λ x. begins_up_to order x ≡ true) (λ x. begins_up_to order x ≡ false) cs a) where
      begins_above : (d : X) → a < length cs → order (get_or (joined cs) (before cs a) d) ≡ Greater
      begins_above d h = greater _ (sym (begins a h d) ∙ point.1 a [] (omega arith) h)

      -- no chunk begins up to what is sought
      pub before_all_chunks : a ≡ 0 → IsPartitionPoint (λ y. order y ≡ Less) (λ y. order y ≡ Greater) (joined cs) 0
      before_all_chunks none = (
        (λ k d low high. absurd (omega arith)),
        (λ k d low high.
            let some = some_chunk cs (omega arith) in
            let top = ap ordering_index (begins_above d (omega arith)) in
            let start : before cs a ≤ k = omega (arith, ap (before cs) none) in
            let rises = rising (before cs a) k d start high in
            greater_by_index _ (omega arith)),
      )

      module _ (c : ℕ) (last : suc c ≡ a) (i : ℕ) (inside : i ≤ length (get_or cs c [])) (inner : IsPartitionPoint (λ y. order y ≡ Less) (λ y. order y ≡ Greater) (get_or cs c []) i) where
        begins_below : (d : X) → ordering_index (order (get_or (joined cs) (before cs c) d)) ≤ 1
        begins_below d = up_to_one _ (sym (begins c (omega arith) d) ∙ point.0 c [] (omega arith) (omega arith))

        first_of : (d : X) → get_or (joined cs) (before cs c) d ≡ get_or (get_or cs c []) 0 d
        first_of d =
            let place : before cs c ≡ before cs c + 0 = omega arith in
            ap (λ n. get_or (joined cs) n d) place ∙ joined_at cs c 0 d (omega arith) (filled_at cs c filled (omega arith))

        first_less : (d : X) → order (get_or (get_or cs c []) 0 d) ≡ Less
        first_less d =
            elim (cases_lt 0 i) [
              | inl k ↦ inner.0 0 d (omega arith) k
              | inr k ↦
                  let top = ap ordering_index (inner.1 0 d k (filled_at cs c filled (omega arith))) in
                  let same = ap (λ x. ordering_index (order x)) (first_of d) in
                  let low = begins_below d in
                  absurd (omega arith)
            ]

        in_chunk : (k : ℕ) (d : X) → before cs c ≤ k → k < before cs c + length (get_or cs c []) → get_or (joined cs) k d ≡ get_or (get_or cs c []) (k - before cs c) d
        in_chunk k d low high =
            let place : k ≡ before cs c + (k - before cs c) = omega arith in
            ap (λ n. get_or (joined cs) n d) place ∙ joined_at cs c (k - before cs c) d (omega arith) (omega arith)

        below : (k : ℕ) (d : X) → k < before cs c + i → order (get_or (joined cs) k d) ≡ Less
        below k d h =
            elim (cases_lt k (before cs c)) [
              | inl lt ↦
                  let low = ap ordering_index (first_less d) in
                  let same = ap (λ x. ordering_index (order x)) (first_of d) in
                  let rises = rising k (before cs c) d (omega arith) (first_inside c (omega arith)) in
                  less_by_index _ (omega arith)
              | inr le ↦ ap order (in_chunk k d le (omega arith)) ∙ inner.0 (k - before cs c) d (omega arith) (omega arith)
            ]

        behind : (k : ℕ) (d : X) → before cs (suc c) ≤ k → k < length (joined cs) → order (get_or (joined cs) k d) ≡ Greater
        behind k d low high =
            elim (cases_lt a (length cs)) [
              | inl lt ↦
                  let top = ap ordering_index (begins_above d lt) in
                  let same = ap (before cs) last in
                  let rises = rising (before cs a) k d (omega arith) high in
                  greater_by_index _ (omega arith)
              | inr le ↦ absurd (omega (arith, before_all cs (suc c) (omega arith)))
            ]

        above : (k : ℕ) (d : X) → before cs c + i ≤ k → k < length (joined cs) → order (get_or (joined cs) k d) ≡ Greater
        above k d low high =
            let step = before_next cs c (omega arith) in
            elim (cases_lt k (before cs (suc c))) [
              | inl lt ↦
                  ap order (in_chunk k d (omega arith) (omega arith)) ∙ inner.1 (k - before cs c) d (omega arith) (omega arith)
              | inr le ↦ behind k d le high
            ]

        pub goes_between : IsPartitionPoint (λ y. order y ≡ Less) (λ y. order y ≡ Greater) (joined cs) (before cs c + i)
        goes_between = ((λ k d low high. below k d high), (λ k d low high. above k d low high))

-- the same of what holds the chunks, as a `Vec` does: f gives the elements
module _ {V X : Type 0} (f : V → List X) (order : X → Ordering) where
  point_of : (vs : List V) (a : ℕ) → a ≤ length vs → IsPartitionPoint (λ v. begins_up_to order (f v) ≡ true) (λ v. begins_up_to order (f v) ≡ false) vs a → IsPartitionPoint (λ x. begins_up_to order x ≡ true) (λ x. begins_up_to order x ≡ false) (map f vs) a
  point_of vs a bound point = (
    (λ k d low high. with_first vs (omega arith) _ (λ v. ap (begins_up_to order) (get_or-map f vs k v d (omega arith)) ∙ point.0 k v low high)),
    (λ k d low high.
        let inside : k < length vs = omega (arith, length-map vs f) in
        with_first vs (omega arith) _ (λ v. ap (begins_up_to order) (get_or-map f vs k v d inside) ∙ point.1 k v low inside)),
  )

  parted_by : (vs : List V) → IsPartitionedBy (begins_up_to order) (map f vs) → IsPartitionedBy (λ v. begins_up_to order (f v)) vs
  parted_by vs h i j d le lt e =
      ap (begins_up_to order) (sym (get_or-map f vs i d [] (omega arith)))
      ∙ h i j [] le (omega (arith, length-map vs f)) (ap (begins_up_to order) (get_or-map f vs j d [] lt) ∙ e)

  module _ (vs : List V) (s : List ℕ) (len : ℕ) (counted : IsCounted (map f vs) s len) (self : List X) (view : joined (map f vs) ≡ self) (ds : List V) (same : ds ≡ vs) (a : ℕ) (bound : a ≤ length ds) (clause : IsPartitionedBy (λ v. begins_up_to order (f v)) ds → IsPartitionPoint (λ v. begins_up_to order (f v) ≡ true) (λ v. begins_up_to order (f v) ≡ false) ds a) where
    rises_in : IsNonDecreasingBy (λ y. ordering_index (order y)) self → IsNonDecreasingBy (λ y. ordering_index (order y)) (joined (map f vs))
    rises_in h = subst (IsNonDecreasingBy (λ y. ordering_index (order y))) (sym view) h

    up_to_all : a ≤ length (map f vs)
    up_to_all = omega (arith, ap length same, length-map vs f)

    point_in : IsNonDecreasingBy (λ y. ordering_index (order y)) self → IsPartitionPoint (λ x. begins_up_to order x ≡ true) (λ x. begins_up_to order x ≡ false) (map f vs) a
    point_in h =
        point_of vs a (omega (arith, ap length same))
        (subst (λ l. IsPartitionPoint (λ v. begins_up_to order (f v) ≡ true) (λ v. begins_up_to order (f v) ≡ false) l a) same
        (clause (subst (IsPartitionedBy (λ v. begins_up_to order (f v))) (sym same) (parted_by vs (parted order (map f vs) counted.filled (rises_in h))))))

    pub goes_first : a ≡ 0 → IsNonDecreasingBy (λ y. ordering_index (order y)) self → IsPartitionPoint (λ y. order y ≡ Less) (λ y. order y ≡ Greater) self 0
    goes_first none h =
        subst (λ l. IsPartitionPoint (λ y. order y ≡ Less) (λ y. order y ≡ Greater) l 0) view
        (before_all_chunks order (map f vs) counted.filled (rises_in h) a up_to_all (point_in h) none)

    module _ (some : a ≡ 0 → ⊥) where
      pub start_inside : a - 1 < length s
      start_inside = omega (arith, ap length counted.begins, length_starts 0 (map f vs), up_to_all)

      chunk_inside : a - 1 < length (map f vs)
      chunk_inside = omega (arith, up_to_all)

      module _ (v : V) (read : v ≡ get_or vs (a - 1) v) (items : List X) (is : items ≡ f v) (x : ℕ) (start : x ≡ get_or s (a - 1) x) where
        chunk_is : items ≡ get_or (map f vs) (a - 1) []
        chunk_is = is ∙ chunk_read f vs (a - 1) v chunk_inside read

        start_is : before (map f vs) (a - 1) ≡ x
        start_is =
            let e = start_read (map f vs) s len counted (a - 1) chunk_inside s refl x start in
            let b = ap (λ l. get_or l (a - 1) 0) counted.begins ∙ start_at 0 (map f vs) (a - 1) chunk_inside in
            omega arith

        pub end_inside : x + length items ≤ length self
        end_inside =
            omega (arith, start_is, ap length chunk_is, chunk_ends (map f vs) (a - 1) chunk_inside, ap length view)

        pub end_fits : x + length items ≤ len
        end_fits = omega (arith, end_inside, counted.count, ap length view)

        pub found_at : (i : ℕ) → i < length items → HoldsAt (λ y. order y ≡ Equal) items i → HoldsAt (λ y. order y ≡ Equal) self (x + i)
        found_at i lt e =
            let at_chunk = found order (map f vs) counted.filled (a - 1) i chunk_inside (subst (λ l. i < length l) chunk_is lt) (subst (λ l. HoldsAt (λ y. order y ≡ Equal) l i) chunk_is e) in
            subst (λ n. HoldsAt (λ y. order y ≡ Equal) self (n + i)) start_is (subst (λ l. HoldsAt (λ y. order y ≡ Equal) l (before (map f vs) (a - 1) + i)) view at_chunk)

        pub goes_at : (i : ℕ) → i ≤ length items → (IsNonDecreasingBy (λ y. ordering_index (order y)) items → IsPartitionPoint (λ y. order y ≡ Less) (λ y. order y ≡ Greater) items i) → IsNonDecreasingBy (λ y. ordering_index (order y)) self → IsPartitionPoint (λ y. order y ≡ Less) (λ y. order y ≡ Greater) self (x + i)
        goes_at i le inner h =
            let rising = chunk_rises order (map f vs) counted.filled (rises_in h) (a - 1) chunk_inside in
            let here = subst (λ l. IsPartitionPoint (λ y. order y ≡ Less) (λ y. order y ≡ Greater) l i) chunk_is (inner (subst (IsNonDecreasingBy (λ y. ordering_index (order y))) (sym chunk_is) rising)) in
            let all = goes_between order (map f vs) counted.filled (rises_in h) a up_to_all (point_in h) (a - 1) (omega arith) i (subst (λ l. i ≤ length l) chunk_is le) here in
            subst (λ n. IsPartitionPoint (λ y. order y ≡ Less) (λ y. order y ≡ Greater) self (n + i)) start_is
            (subst (λ l. IsPartitionPoint (λ y. order y ≡ Less) (λ y. order y ≡ Greater) l (before (map f vs) (a - 1) + i)) view all)
