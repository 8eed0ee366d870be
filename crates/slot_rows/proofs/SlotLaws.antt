-- Slots in key order.
use Rattle.std.proofs.Common.{◌≡◌, ◌≢◌, ℕ, zero, suc, ◌<◌, ◌≤◌, List, [], ◌∷◌, length, map, get_or, slice_get, Option, Some, None, is_some, unwrap_or, true, false, T, Result, Ok, Err, Less, Equal, Ordering, refl, sym, ap, subst, ◌∙◌, ◌⊎◌, inl, inr, arith}
use Rattle.std.proofs.lemmas.List.{get_or-map, length-map}
use Rattle.std.proofs.lemmas.Option.{slice_get-get_or}
use Rattle.std.specs.List.{insert, remove}
use Rattle.std.proofs.lemmas.Cmp.{tied_itself}
use Rattle.indexed_rows.specs.row_types.proofs.OrderLaws.{key_total}
use Rattle.indexed_rows.proofs.Sorted.{below_at, below_tail, sorted_remove, sorted_tail}
use Rattle.std.specs.List.Sorted.{IsBinarySearchResult, IsSearchInRange}
use Rattle.std.specs.Ordering.{ordering_index}
use Rattle.std.specs.FinMap as fm
use Rattle.slab.specs.Slab.{Slab, Updates, get}
use Rattle.indexed_rows.specs.row_types.specs.declared.value.Value.{Value}
use Rattle.indexed_rows.specs.row_types.specs.Order.{key_order}
use Rattle.indexed_rows.specs.Places.{IsKeyAt}
use Rattle.indexed_rows.specs.Rows.{Table, key_of}
use Rattle.slot_rows.specs.Slots.{AreSlots, entries_in, entry_in, row_in}
use Rattle.indexed_rows.proofs.MapLaws.{entries_of, row_of, slice_get_map}

module _ {X Y : Type 0} (f : X → Y) where
  pub mapped_range : (xs : List X) (r : Result ℕ ℕ) → IsSearchInRange r (length xs) → IsSearchInRange r (length (map f xs))
  mapped_range xs r h = subst (IsSearchInRange r) (sym (length-map xs f)) h

  -- a search by an order that says of each element what another says of its image
  pub mapped_search : (first : X → Ordering) (order : Y → Ordering) (xs : List X) → X → ((i : ℕ) (d : X) → i < length xs → first (get_or xs i d) ≡ order (f (get_or xs i d)))
      → (r : Result ℕ ℕ) → IsSearchInRange r (length xs) → IsBinarySearchResult first xs r → IsBinarySearchResult order (map f xs) r
  mapped_search first order xs x agree (Ok i) h p = λ d. ap order (get_or-map f xs i x d h) ∙ sym (agree i x h) ∙ p x
  mapped_search first order xs x agree (Err i) h p = λ rises.
      let point = p (λ a b d low high. let s = rises a b (f d) low (subst (λ n. b < n) (sym (length-map xs f)) high) in
      let one = ap (λ y. ordering_index (order y)) (get_or-map f xs a d (f d) (below a b low high)) in
      let two = ap (λ y. ordering_index (order y)) (get_or-map f xs b d (f d) high) in
      let three = ap ordering_index (agree a d (below a b low high)) in
      let four = ap ordering_index (agree b d high) in omega (arith, s, one, two, three, four)) in (
        (λ k d low high. let lt : k < length xs = inside k high h in ap order (get_or-map f xs k x d lt) ∙ sym (agree k x lt) ∙ point.0 k x low high),
        (λ k d low high. let lt : k < length xs = subst (λ n. k < n) (length-map xs f) high in ap order (get_or-map f xs k x d lt) ∙ sym (agree k x lt) ∙ point.1 k x low lt),
      )
    where
      below : (a b : ℕ) → a ≤ b → b < length xs → a < length xs
      below a b low high = omega arith

      inside : (k : ℕ) → k < i → i ≤ length xs → k < length xs
      inside k lt le = omega arith

  pub map_insert : (xs : List X) (i : ℕ) (x : X) → map f (insert xs i x) ≡ insert (map f xs) i (f x)
  map_insert [] zero x = refl
  map_insert [] (suc i) x = refl
  map_insert (y ∷ xs) zero x = refl
  map_insert (y ∷ xs) (suc i) x = ap (λ l. f y ∷ l) (map_insert xs i x)

  pub map_remove : (xs : List X) (i : ℕ) → map f (remove xs i) ≡ remove (map f xs) i
  map_remove [] zero = refl
  map_remove [] (suc i) = refl
  map_remove (x ∷ xs) zero = refl
  map_remove (x ∷ xs) (suc i) = ap (λ l. f x ∷ l) (map_remove xs i)

module _ {X : Type 0} where
  -- what stands in a list with an element more
  pub inserted : (xs : List X) (p : ℕ) (x : X) (i : ℕ) (y : X) → slice_get (insert xs p x) i ≡ Some y → (x ≡ y) ⊎ ((j : ℕ) × (slice_get xs j ≡ Some y))
  inserted [] zero x zero y e = inl (let z : x ≡ y = cc in z)
  inserted [] zero x (suc i) y e = cc
  inserted [] (suc p) x zero y e = inl (let z : x ≡ y = cc in z)
  inserted [] (suc p) x (suc i) y e = cc
  inserted (z ∷ xs) zero x zero y e = inl (let w : x ≡ y = cc in w)
  inserted (z ∷ xs) zero x (suc i) y e = inr (i, e)
  inserted (z ∷ xs) (suc p) x zero y e = inr (0, e)
  inserted (z ∷ xs) (suc p) x (suc i) y e = elim (inserted xs p x i y e) [
    | inl w ↦ inl w
    | inr w ↦ inr (suc w.0, w.1)
  ]

  -- what stands in a list with an element less
  pub kept_of : (xs : List X) (p i : ℕ) (y : X) → slice_get (remove xs p) i ≡ Some y → (j : ℕ) × (slice_get xs j ≡ Some y)
  kept_of [] zero i y e = (i, e)
  kept_of [] (suc p) i y e = (i, e)
  kept_of (x ∷ xs) zero i y e = (suc i, e)
  kept_of (x ∷ xs) (suc p) zero y e = (0, e)
  kept_of (x ∷ xs) (suc p) (suc i) y e = let k = kept_of xs p i y e in (suc k.0, k.1)

module _ (old new : Slab (List Value)) (slot : ℕ) (row : List Value) (vacant : get old slot ≡ None) (u : Updates old new slot (Some row)) where
  -- slots that have rows keep them
  pub same_rows : (places slots : List ℕ) → ((i s : ℕ) → slice_get slots i ≡ Some s → is_some (get old s) ≡ true) → entries_in new places slots ≡ entries_in old places slots
  same_rows places [] live = refl
  same_rows places (s ∷ slots) live =
      let other : s ≢ slot = λ e. let x : true ≡ false = sym (live 0 s refl) ∙ ap (λ t. is_some (get old t)) e ∙ ap is_some vacant in cc in
      let same : get new s ≡ get old s = u.others s other in
      let first : entry_in new places s ≡ entry_in old places s = ap (λ o. (key_of places (unwrap_or o []), unwrap_or o [])) same in
      let rest = same_rows places slots (λ i t e. live (suc i) t e) in
      λ i. first i ∷ rest i

-- the row at a place
pub row_there : (slab : Slab (List Value)) (places slots : List ℕ) → AreSlots slab places slots → (i slot : ℕ) → i < length slots → slot ≡ get_or slots i slot → get slab slot ≡ Some (row_in slab slot)
row_there slab places slots are i slot h is = by (get slab slot) refl (are.live i slot (slice_get-get_or slots i slot h ∙ ap Some (sym is)))
  where
    by : (o : Option (List Value)) → get slab slot ≡ o → is_some (get slab slot) ≡ true → get slab slot ≡ Some (row_in slab slot)
    by None e live = let x : false ≡ true = sym (ap is_some e) ∙ live in cc
    by (Some r) e live = e ∙ sym (ap (λ o. Some (unwrap_or o [])) e)

entry_at_place : (slab : Slab (List Value)) (places slots : List ℕ) (i slot : ℕ) → i < length slots → slot ≡ get_or slots i slot → slice_get (entries_in slab places slots) i ≡ Some (entry_in slab places slot)
entry_at_place slab places [] i slot h is = absurd (omega arith)
entry_at_place slab places (s ∷ slots) zero slot h is = ap (λ t. Some (entry_in slab places t)) (sym is)
entry_at_place slab places (s ∷ slots) (suc i) slot h is = entry_at_place slab places slots i slot (omega arith) is

pub value_at_place : (slab : Slab (List Value)) (places slots : List ℕ) → AreSlots slab places slots → (m : Table) → fm.from_sorted (entries_in slab places slots) ≡ m → (i slot : ℕ) → i < length slots → slot ≡ get_or slots i slot
    → get slab slot ≡ slice_get (fm.values m) i
value_at_place slab places slots are m view i slot h is =
    row_there slab places slots are i slot h is
    ∙ sym (slice_get_map (λ e. e.1) (fm.entries m) i (entry_in slab places slot) (ap (λ l. slice_get l i) (entries_of (entries_in slab places slots) m are.sorted view) ∙ entry_at_place slab places slots i slot h is))

pub row_of_key : (slab : Slab (List Value)) (places slots : List ℕ) → AreSlots slab places slots → (m : Table) → fm.from_sorted (entries_in slab places slots) ≡ m → (k : List Value) (i slot : ℕ) → i < length slots → slot ≡ get_or slots i slot
    → IsKeyAt (fm.entries m) k i → get slab slot ≡ fm.get m k
row_of_key slab places slots are m view k i slot h is at =
    let e : entry_in slab places slot ≡ get_or (entries_in slab places slots) i (entry_in slab places slot) = sym (get_or-map (entry_in slab places) slots i slot (entry_in slab places slot) h ∙ ap (entry_in slab places) (sym is)) in
    row_there slab places slots are i slot h is ∙ sym (row_of (entries_in slab places slots) m are.sorted view k i (entry_in slab places slot) at e)

module _ (slab : Slab (List Value)) (places : List ℕ) where
  entry_of_get : (slots : List ℕ) (i s : ℕ) → slice_get slots i ≡ Some s → (i < length slots) × ((d : List Value × List Value) → get_or (entries_in slab places slots) i d ≡ entry_in slab places s)
  entry_of_get [] i s e = cc
  entry_of_get (x ∷ slots) zero s e = (omega arith, λ d. ap (entry_in slab places) (let z : x ≡ s = cc in z))
  entry_of_get (x ∷ slots) (suc i) s e = let r = entry_of_get slots i s e in (omega (arith, r.0), r.1)

  differs : (x s : ℕ) → key_order (entry_in slab places x).0 (entry_in slab places s).0 ≡ Less → x ≡ s → ⊥
  differs x s less e =
      let same : key_order (entry_in slab places x).0 (entry_in slab places x).0 ≡ Less = ap (λ t. key_order (entry_in slab places x).0 (entry_in slab places t).0) e ∙ less in
      let tie : key_order (entry_in slab places x).0 (entry_in slab places x).0 ≡ Equal = tied_itself key_total (entry_in slab places x).0 in cc

  pub above : (x : ℕ) (slots : List ℕ) → T (fm.is_sorted key_order (entries_in slab places (x ∷ slots))) → (i s : ℕ) → slice_get slots i ≡ Some s → key_order (entry_in slab places x).0 (entry_in slab places s).0 ≡ Less
  above x slots h i s e =
      let r = entry_of_get slots i s e in
      let within : i < length (entries_in slab places slots) = subst (λ n. i < n) (sym (length-map slots (entry_in slab places))) r.0 in
      ap (λ y. key_order (entry_in slab places x).0 y.0) (sym (r.1 (entry_in slab places x))) ∙ below_at key_order (entry_in slab places x).0 (entries_in slab places slots) i (entry_in slab places x) (below_tail key_order (entry_in slab places x) (entries_in slab places slots) h) within

  -- the slot at a place stands nowhere else
  pub others_differ : (slots : List ℕ) → T (fm.is_sorted key_order (entries_in slab places slots)) → (i slot : ℕ) → slice_get slots i ≡ Some slot → (j s : ℕ) → slice_get (remove slots i) j ≡ Some s → s ≡ slot → ⊥
  others_differ [] h i slot at j s e = cc
  others_differ (x ∷ slots) h zero slot at j s e = let z : x ≡ slot = cc in λ q. differs x s (above x slots h j s e) (z ∙ sym q)
  others_differ (x ∷ slots) h (suc i) slot at zero s e = let z : x ≡ s = cc in λ q. differs x slot (above x slots h i slot at) (z ∙ q)
  others_differ (x ∷ slots) h (suc i) slot at (suc j) s e = others_differ slots (sorted_tail key_order (entry_in slab places x) (entries_in slab places slots) h) i slot at j s e

module _ (old new : Slab (List Value)) (slot : ℕ) (u : Updates old new slot None) (places slots : List ℕ) (are : AreSlots old places slots) (i : ℕ) (at : slice_get slots i ≡ Some slot) where
  rows_stay : (rest : List ℕ) → ((j s : ℕ) → slice_get rest j ≡ Some s → s ≡ slot → ⊥) → entries_in new places rest ≡ entries_in old places rest
  rows_stay [] h = refl
  rows_stay (s ∷ rest) h =
      let first : entry_in new places s ≡ entry_in old places s = ap (λ o. (key_of places (unwrap_or o []), unwrap_or o [])) (u.others s (h 0 s refl)) in
      let later = rows_stay rest (λ j t e. h (suc j) t e) in
      λ k. first k ∷ later k

  pub entries_left : entries_in new places (remove slots i) ≡ remove (entries_in old places slots) i
  entries_left = rows_stay (remove slots i) (others_differ old places slots are.sorted i slot at) ∙ map_remove (entry_in old places) slots i

  pub left_slots : AreSlots new places (remove slots i)
  left_slots = record {
    live = λ j s e. let k = kept_of slots i j s e in ap is_some (u.others s (others_differ old places slots are.sorted i slot at j s e)) ∙ are.live k.0 s k.1;
    sorted = subst (λ es. T (fm.is_sorted key_order es)) (sym entries_left) (sorted_remove key_order (entries_in old places slots) i are.sorted);
  }

pub slot_at : (slots : List ℕ) (i slot : ℕ) → i < length slots → slot ≡ get_or slots i slot → slice_get slots i ≡ Some slot
slot_at slots i slot h is = slice_get-get_or slots i slot h ∙ ap Some (sym is)
