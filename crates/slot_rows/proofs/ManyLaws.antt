-- Several orders of the same slots.
use Rattle.std.proofs.Common.{◌≡◌, ℕ, zero, suc, ◌+◌, ◌<◌, ◌≤◌, List, [], ◌∷◌, ◌++◌, length, map, take, drop, slice_get, Some, None, is_some, unwrap_or, true, false, T, Less, Equal, refl, sym, ap, subst, ◌∙◌, inl, inr, arith}
use Rattle.std.specs.List.{insert, remove}
use Rattle.std.specs.FinMap as fm
use Rattle.std.proofs.lemmas.Cmp.{tied_itself}
use Rattle.slab.specs.Slab.{Slab, Updates, get}
use Rattle.indexed_rows.specs.row_types.specs.declared.value.Value.{Value}
use Rattle.indexed_rows.specs.row_types.specs.declared.value.Value.TheVariants.{Null}
use Rattle.indexed_rows.specs.row_types.specs.Order.{key_order}
use Rattle.indexed_rows.specs.row_types.proofs.OrderLaws.{key_total}
use Rattle.indexed_rows.specs.Places.{IsGapFor, IsKeyAt}
use Rattle.indexed_rows.proofs.MapLaws.{entries_of, has_key, no_key}
use Rattle.indexed_rows.proofs.Sorted.{sorted_tail}
use Rattle.indexed_rows.specs.Rows.{key_of}
use Rattle.slot_rows.specs.Leads.{lead_of}
use Rattle.slot_rows.specs.Orders.{AllIn, Awaits, Each, EachNow, EntersOrder, HasSpare, Includes, IsOther, IsWider, SameOrder, LeavesOrder}
use Rattle.slot_rows.specs.Slots.{AreOrdered, entries_in, entry_in, row_in, slots_of, table_in}
use Rattle.slot_rows.specs.declared.order.Entry.{Entry}
use Rattle.slot_rows.specs.declared.order.Order.{Order}
use Rattle.slot_rows.proofs.OrderLaws.{left_order, order_stays, slots_left, table_stays}
use Rattle.slot_rows.proofs.SlotLaws.{above, inserted, kept_of, others_differ}

abbrev Row : Type 0
Row = List Value

-- keys by more columns
pub key_of_append : (xs ys : List ℕ) (row : Row) → key_of (xs ++ ys) row ≡ key_of xs row ++ key_of ys row
key_of_append [] ys row = refl
key_of_append (x ∷ xs) ys row = ap (λ l. unwrap_or (slice_get row x) Null ∷ l) (key_of_append xs ys row)

same_front : (xs : List ℕ) (a b : Row) → length (key_of xs a) ≡ length (key_of xs b)
same_front [] a b = refl
same_front (x ∷ xs) a b = ap suc (same_front xs a b)

rest_of : (a b : Row) → drop (length a) (a ++ b) ≡ b
rest_of [] b = refl
rest_of (x ∷ a) b = rest_of a b

tail_of : (a a' b b' : Row) → length a ≡ length a' → a ++ b ≡ a' ++ b' → b ≡ b'
tail_of a a' b b' long e = sym (rest_of a b) ∙ ap (drop (length a)) e ∙ ap (λ n. drop n (a' ++ b')) long ∙ rest_of a' b'

same_key : (columns places : List ℕ) (a b : Row) → key_of (columns ++ places) a ≡ key_of (columns ++ places) b → key_of places a ≡ key_of places b
same_key columns places a b e = tail_of (key_of columns a) (key_of columns b) (key_of places a) (key_of places b) (same_front columns a b) (sym (key_of_append columns places a) ∙ e ∙ key_of_append columns places b)

-- the slot of a key among entries
key_slot : (slab : Slab Row) (places slots : List ℕ) (j : ℕ) (k : Row) → slice_get (map (λ e. e.0) (entries_in slab places slots)) j ≡ Some k → (slot : ℕ) × (slice_get slots j ≡ Some slot) × (key_of places (row_in slab slot) ≡ k)
key_slot slab places [] j k e = cc
key_slot slab places (s ∷ slots) zero k e = (s, refl, (let x : key_of places (row_in slab s) ≡ k = cc in x))
key_slot slab places (s ∷ slots) (suc j) k e = key_slot slab places slots j k e

slot_key : (slab : Slab Row) (places slots : List ℕ) (j slot : ℕ) → slice_get slots j ≡ Some slot → slice_get (map (λ e. e.0) (entries_in slab places slots)) j ≡ Some (key_of places (row_in slab slot))
slot_key slab places [] j slot e = cc
slot_key slab places (s ∷ slots) zero slot e = let x : s ≡ slot = cc in ap (λ t. Some (key_of places (row_in slab t))) x
slot_key slab places (s ∷ slots) (suc j) slot e = slot_key slab places slots j slot e

member_new : (xs : List ℕ) (p x : ℕ) → (j : ℕ) × (slice_get (insert xs p x) j ≡ Some x)
member_new [] zero x = (0, refl)
member_new [] (suc p) x = (0, refl)
member_new (y ∷ xs) zero x = (0, refl)
member_new (y ∷ xs) (suc p) x = let m = member_new xs p x in (suc m.0, m.1)

member_old : (xs : List ℕ) (p x j s : ℕ) → slice_get xs j ≡ Some s → (i : ℕ) × (slice_get (insert xs p x) i ≡ Some s)
member_old [] p x j s e = cc
member_old (y ∷ xs) zero x j s e = (suc j, e)
member_old (y ∷ xs) (suc p) x zero s e = (0, e)
member_old (y ∷ xs) (suc p) x (suc j) s e = let m = member_old xs p x j s e in (suc m.0, m.1)

both_grown : (xs ys : List ℕ) (p q x : ℕ) → AllIn xs ys → AllIn (insert xs p x) (insert ys q x)
both_grown xs ys p q x sub i s e = elim (inserted xs p x i s e) [
  | inl w ↦ let m = member_new ys q x in (m.0, m.1 ∙ ap Some w)
  | inr w ↦ let o = sub w.0 s w.1 in member_old ys q x o.0 s o.1
]

member_left : (ys : List ℕ) (p j s x : ℕ) → slice_get ys j ≡ Some s → slice_get ys p ≡ Some x → (s ≡ x → ⊥) → (k : ℕ) × (slice_get (remove ys p) k ≡ Some s)
member_left [] p j s x e at n = cc
member_left (y ∷ ys) zero zero s x e at n = absurd (n cc)
member_left (y ∷ ys) zero (suc j) s x e at n = (j, e)
member_left (y ∷ ys) (suc p) zero s x e at n = (0, e)
member_left (y ∷ ys) (suc p) (suc j) s x e at n = let m = member_left ys p j s x e at n in (suc m.0, m.1)

clash_less : (k l : Row) → key_order k l ≡ Less → k ≡ l → ⊥
clash_less k l less e = let x : key_order k k ≡ Less = ap (key_order k) e ∙ less in let y : key_order k k ≡ Equal = tied_itself key_total k in cc

-- one key, one slot
pub same_slot : (slab : Slab Row) (places slots : List ℕ) → T (fm.is_sorted key_order (entries_in slab places slots)) → (i j a b : ℕ) → slice_get slots i ≡ Some a → slice_get slots j ≡ Some b → key_of places (row_in slab a) ≡ key_of places (row_in slab b) → a ≡ b
same_slot slab places [] h i j a b x y e = cc
same_slot slab places (s ∷ slots) h zero zero a b x y e = cc
same_slot slab places (s ∷ slots) h zero (suc j) a b x y e =
    let z : s ≡ a = cc in absurd (clash_less (key_of places (row_in slab s)) (key_of places (row_in slab b)) (above slab places s slots h j b y) (ap (λ t. key_of places (row_in slab t)) z ∙ e))
same_slot slab places (s ∷ slots) h (suc i) zero a b x y e =
    let z : s ≡ b = cc in absurd (clash_less (key_of places (row_in slab s)) (key_of places (row_in slab a)) (above slab places s slots h i a x) (ap (λ t. key_of places (row_in slab t)) z ∙ sym e))
same_slot slab places (s ∷ slots) h (suc i) (suc j) a b x y e = same_slot slab places slots (sorted_tail key_order (entry_in slab places s) (entries_in slab places slots) h) i j a b x y e

-- the entries of the map are those of the order
module _ (slab : Slab Row) (places : List ℕ) (entries : List Entry) (are : AreOrdered slab places entries) where
  pub keys_are : fm.entries (table_in slab places entries) ≡ entries_in slab places (slots_of entries)
  keys_are = entries_of (entries_in slab places (slots_of entries)) (table_in slab places entries) are.slots.sorted refl

  pub slot_of_key : (k : Row) (j : ℕ) → IsKeyAt (fm.entries (table_in slab places entries)) k j → (slot : ℕ) × (slice_get (slots_of entries) j ≡ Some slot) × (key_of places (row_in slab slot) ≡ k)
  slot_of_key k j found = key_slot slab places (slots_of entries) j k (subst (λ es. IsKeyAt es k j) keys_are found)

  pub key_of_slot : (j slot : ℕ) → slice_get (slots_of entries) j ≡ Some slot → IsKeyAt (fm.entries (table_in slab places entries)) (key_of places (row_in slab slot)) j
  key_of_slot j slot there = subst (λ es. IsKeyAt es (key_of places (row_in slab slot)) j) (sym keys_are) (slot_key slab places (slots_of entries) j slot there)

  -- a row that is there is found in its slot
  pub found_slot : (j slot : ℕ) → slice_get (slots_of entries) j ≡ Some slot → (i : ℕ) → IsKeyAt (fm.entries (table_in slab places entries)) (key_of places (row_in slab slot)) i → slice_get (slots_of entries) i ≡ Some slot
  found_slot j slot there i found =
      let s = slot_of_key (key_of places (row_in slab slot)) i found in
      s.1 ∙ ap Some (same_slot slab places (slots_of entries) are.slots.sorted i j s.0 slot s.1 there s.2)

  pub not_absent : (j slot : ℕ) → slice_get (slots_of entries) j ≡ Some slot → (i : ℕ) → IsGapFor (fm.entries (table_in slab places entries)) (key_of places (row_in slab slot)) i → ⊥
  not_absent j slot there i gap =
      let x : true ≡ false = sym (has_key (table_in slab places entries) (key_of places (row_in slab slot)) j (key_of_slot j slot there)) ∙ no_key (table_in slab places entries) (key_of places (row_in slab slot)) i gap in cc

-- a row goes into a slot, and into the order by key
module _ (slab new : Slab Row) (places : List ℕ) (entries : List Entry) (spare : ℕ) (are : AreOrdered slab places entries) (row : Row) (slot at : ℕ) (vacant : get slab slot ≡ None) (u : Updates slab new slot (Some row))
    (gap : IsGapFor (fm.entries (table_in slab places entries)) (key_of places row) at) where
  row_now : row_in new slot ≡ row
  row_now = ap (λ o. unwrap_or o []) u.changed

  -- a key that isn't in the table isn't in another order
  no_clash : (order : Order) → IsOther slab places entries spare order → (j : ℕ) → IsKeyAt (fm.entries (table_in slab order.places order.entries)) (key_of order.places row) j → ⊥
  no_clash order is j found =
      let s = slot_of_key slab order.places order.entries is.ordered (key_of order.places row) j found in
      let o = is.only j s.0 s.1 in
      let key : key_of places (row_in slab s.0) ≡ key_of places row = same_key is.wider.0 places (row_in slab s.0) row (ap (λ ps. key_of ps (row_in slab s.0)) (sym is.wider.1) ∙ s.2 ∙ ap (λ ps. key_of ps row) is.wider.1) in
      let here = subst (λ k. IsKeyAt (fm.entries (table_in slab places entries)) k o.0) key (key_of_slot slab places entries are o.0 s.0 o.1) in
      let x : true ≡ false = sym (has_key (table_in slab places entries) (key_of places row) o.0 here) ∙ no_key (table_in slab places entries) (key_of places row) at gap in cc

  awaits : 0 < spare → length entries + 1 < 9223372036854775808 → (order : Order) → IsOther slab places entries spare order → Awaits new slot order
  awaits some fits order is = record {
    ordered = order_stays slab new slot row vacant u order.places order.entries is.ordered;
    live = ap is_some u.changed;
    absent = λ j found. no_clash order is j (subst (λ m. IsKeyAt (fm.entries m) (key_of order.places row) j) (table_stays slab new slot row vacant u order.places order.entries is.ordered)
        (subst (λ r. IsKeyAt (fm.entries (table_in new order.places order.entries)) (key_of order.places r) j) row_now found));
    fits = subst (λ n. n + 1 < 9223372036854775808) (sym is.long) fits;
    room = omega (arith, some, is.room);
  }

  pub each_awaits : 0 < spare → length entries + 1 < 9223372036854775808 → (orders : List Order) → Each (IsOther slab places entries spare) orders → Each (Awaits new slot) orders
  each_awaits some fits [] are = are
  each_awaits some fits (order ∷ orders) are = (awaits some fits order are.0, each_awaits some fits orders are.1)

  module _ (now : List Entry) (slots : slots_of now ≡ insert (slots_of entries) at slot) (long : length now ≡ length entries + 1) (left : ℕ) (fewer : spare ≡ left + 1) where
    entered : (order after : Order) → IsOther slab places entries spare order → EntersOrder new slot order after → IsOther new places now left after
    entered order after is e = record {
      ordered = e.ordered;
      entered = subst (λ xs. AllIn xs (slots_of after.entries)) (sym slots) (subst (AllIn (insert (slots_of entries) at slot)) (sym e.slots) (both_grown (slots_of entries) (slots_of order.entries) at e.at slot is.entered));
      only = subst (AllIn (slots_of after.entries)) (sym slots) (subst (λ xs. AllIn xs (insert (slots_of entries) at slot)) (sym e.slots) (both_grown (slots_of order.entries) (slots_of entries) e.at at slot is.only));
      long = e.long ∙ ap (λ n. n + 1) is.long ∙ sym long;
      wider = subst (λ ps. IsWider ps places) (sym e.places) is.wider;
      room = omega (arith, fewer, is.room, e.room);
    }

    pub each_entered : (orders after : List Order) → Each (IsOther slab places entries spare) orders → EachNow (EntersOrder new slot) orders after → Each (IsOther new places now left) after
    each_entered [] [] are e = tt
    each_entered [] (a ∷ after) are e = absurd e
    each_entered (order ∷ orders) [] are e = absurd e
    each_entered (order ∷ orders) (a ∷ after) are e = (entered order a are.0 e.0, each_entered orders after are.1 e.1)

-- a row leaves its slot, and the order by key
module _ (slab : Slab Row) (places : List ℕ) (entries : List Entry) (spare : ℕ) (are : AreOrdered slab places entries) (at slot : ℕ) (there : slice_get (slots_of entries) at ≡ Some slot) where
  pub each_includes : (orders : List Order) → Each (IsOther slab places entries spare) orders → Each (Includes slab slot) orders
  each_includes [] is = is
  each_includes (order ∷ orders) is = (let e = is.0.entered at slot there in (record { ordered = is.0.ordered; place = e.0; there = e.1 }), each_includes orders is.1)

  module _ (new : Slab Row) (u : Updates slab new slot None) (now : List Entry) (left : now ≡ remove entries at) (long : length now + 1 ≡ length entries) where
    slots_now : slots_of now ≡ remove (slots_of entries) at
    slots_now = ap slots_of left ∙ slots_left slab new slot places entries at u are there

    has_left : (order after : Order) → IsOther slab places entries spare order → LeavesOrder slot order after → IsOther new places now spare after
    has_left order after is e =
        let gone : slots_of after.entries ≡ remove (slots_of order.entries) e.at = ap slots_of e.entries ∙ slots_left slab new slot order.places order.entries e.at u is.ordered e.was in
        record {
          ordered = subst (λ ps. AreOrdered new ps after.entries) (sym e.places) (subst (AreOrdered new order.places) (sym e.entries) (left_order slab new slot order.places order.entries e.at u is.ordered e.was));
          entered = subst (λ xs. AllIn xs (slots_of after.entries)) (sym slots_now) (subst (AllIn (remove (slots_of entries) at)) (sym gone)
              (λ x s q. let k = kept_of (slots_of entries) at x s q in let o = is.entered k.0 s k.1 in member_left (slots_of order.entries) e.at o.0 s slot o.1 e.was (others_differ slab places (slots_of entries) are.slots.sorted at slot there x s q)));
          only = subst (AllIn (slots_of after.entries)) (sym slots_now) (subst (λ xs. AllIn xs (remove (slots_of entries) at)) (sym gone)
              (λ x s q. let k = kept_of (slots_of order.entries) e.at x s q in let o = is.only k.0 s k.1 in member_left (slots_of entries) at o.0 s slot o.1 there (others_differ slab order.places (slots_of order.entries) is.ordered.slots.sorted e.at slot e.was x s q)));
          long = omega (arith, e.long, is.long, long);
          wider = subst (λ ps. IsWider ps places) (sym e.places) is.wider;
          room = subst (λ r. spare ≤ length r.items) (sym e.room) is.room;
        }

    pub each_left : (orders after : List Order) → Each (IsOther slab places entries spare) orders → EachNow (LeavesOrder slot) orders after → Each (IsOther new places now spare) after
    each_left [] [] is e = tt
    each_left [] (a ∷ after) is e = absurd e
    each_left (order ∷ orders) [] is e = absurd e
    each_left (order ∷ orders) (a ∷ after) is e = (has_left order a is.0 e.0, each_left orders after is.1 e.1)

-- what stays of the orders
abbrev columns_of : List Order → List (List ℕ)
columns_of orders = map (λ o. o.places) orders

module _ (R : Order → Order → Type 0) (keeps : (x y : Order) → R x y → y.places ≡ x.places) where
  pub columns_stay : (orders after : List Order) → EachNow R orders after → columns_of after ≡ columns_of orders
  columns_stay [] [] e = refl
  columns_stay [] (a ∷ after) e = absurd e
  columns_stay (o ∷ orders) [] e = absurd e
  columns_stay (o ∷ orders) (a ∷ after) e = let first = keeps o a e.0 in let rest = columns_stay orders after e.1 in λ i. first i ∷ rest i

kept_same : (orders : List Order) → EachNow SameOrder orders orders
kept_same [] = tt
kept_same (o ∷ orders) = (record { places = refl; entries = refl; room = omega arith }, kept_same orders)

pub first_kept : (whole : List Order) (o a : Order) (rest : List Order) → whole ≡ o ∷ rest → SameOrder o a → EachNow SameOrder whole (a ∷ rest)
first_kept whole o a rest e k = subst (λ l. EachNow SameOrder l (a ∷ rest)) (sym e) (k, kept_same rest)

-- a slice of the whole list, given back
pub each_long : (R : Order → Order → Type 0) (orders after : List Order) → EachNow R orders after → length after ≡ length orders
each_long R [] [] e = refl
each_long R [] (a ∷ after) e = absurd e
each_long R (o ∷ orders) [] e = absurd e
each_long R (o ∷ orders) (a ∷ after) e = ap suc (each_long R orders after e.1)

pub slice_back : {X : Type 0} (xs ys : List X) (n : ℕ) → length ys ≡ length xs → n ≡ length xs → take n (ys ++ drop (length ys) xs) ≡ ys
slice_back xs ys n e f = ap (λ k. take n (ys ++ drop k xs)) e ∙ ap (λ l. take n (ys ++ l)) (none_left xs) ∙ ap (take n) (append_none ys) ∙ ap (λ k. take k ys) (f ∙ sym e) ∙ all_of ys
  where
    none_left : {X : Type 0} (xs : List X) → drop (length xs) xs ≡ []
    none_left [] = refl
    none_left (x ∷ xs) = none_left xs

    append_none : {X : Type 0} (ys : List X) → ys ++ [] ≡ ys
    append_none [] = refl
    append_none (y ∷ ys) = ap (λ l. y ∷ l) (append_none ys)

    all_of : {X : Type 0} (ys : List X) → take (length ys) ys ≡ ys
    all_of [] = refl
    all_of (y ∷ ys) = ap (λ l. y ∷ l) (all_of ys)

-- slabs with the same rows have the same orders
module _ (slab new : Slab Row) (same : (s : ℕ) → get new s ≡ get slab s) where
  entries_same : (places slots : List ℕ) → entries_in new places slots ≡ entries_in slab places slots
  entries_same places [] = refl
  entries_same places (s ∷ slots) =
      let first : entry_in new places s ≡ entry_in slab places s = ap (λ o. (key_of places (unwrap_or o []), unwrap_or o [])) (same s) in
      let rest = entries_same places slots in
      λ i. first i ∷ rest i

  pub order_same : (places : List ℕ) (entries : List Entry) → AreOrdered slab places entries → AreOrdered new places entries
  order_same places entries are = record {
    slots = record {
      live = λ i s is. ap is_some (same s) ∙ are.slots.live i s is;
      sorted = subst (λ es. T (fm.is_sorted key_order es)) (sym (entries_same places (slots_of entries))) are.slots.sorted;
    };
    led = λ i x is. are.led i x is ∙ ap (λ o. lead_of (key_of places (unwrap_or o []))) (sym (same x.slot));
  }

  pub each_same : (places : List ℕ) (entries : List Entry) (spare : ℕ) (orders : List Order) → Each (IsOther slab places entries spare) orders → Each (IsOther new places entries spare) orders
  each_same places entries spare [] are = are
  each_same places entries spare (o ∷ orders) are = (
    record { ordered = order_same o.places o.entries are.0.ordered; entered = are.0.entered; only = are.0.only; long = are.0.long; wider = are.0.wider; room = are.0.room },
    each_same places entries spare orders are.1,
  )

module _ (slab : Slab Row) (places : List ℕ) (entries : List Entry) where
  has_kept : (spare more : ℕ) (order after : Order) → IsOther slab places entries spare order → SameOrder order after → more ≤ length after.room.items → IsOther slab places entries more after
  has_kept spare more order after is k room = record {
    ordered = subst (λ ps. AreOrdered slab ps after.entries) (sym k.places) (subst (AreOrdered slab order.places) (sym k.entries) is.ordered);
    entered = subst (λ es. AllIn (slots_of entries) (slots_of es)) (sym k.entries) is.entered;
    only = subst (λ es. AllIn (slots_of es) (slots_of entries)) (sym k.entries) is.only;
    long = ap length k.entries ∙ is.long;
    wider = subst (λ ps. IsWider ps places) (sym k.places) is.wider;
    room = room;
  }

  -- the orders stay, with no less room
  pub each_kept : (spare : ℕ) (orders after : List Order) → Each (IsOther slab places entries spare) orders → EachNow SameOrder orders after → Each (IsOther slab places entries spare) after
  each_kept spare [] [] is k = tt
  each_kept spare [] (a ∷ after) is k = absurd k
  each_kept spare (o ∷ orders) [] is k = absurd k
  each_kept spare (o ∷ orders) (a ∷ after) is k = (has_kept spare spare o a is.0 k.0 (omega (arith, is.0.room, k.0.room)), each_kept spare orders after is.1 k.1)

  -- the orders stay, with so much room
  pub each_filled : (spare more least : ℕ) (orders after : List Order) → least ≤ more → Each (IsOther slab places entries spare) orders → EachNow SameOrder orders after → Each (HasSpare more) after → Each (IsOther slab places entries least) after
  each_filled spare more least [] [] le is k room = tt
  each_filled spare more least [] (a ∷ after) le is k room = absurd k
  each_filled spare more least (o ∷ orders) [] le is k room = absurd k
  each_filled spare more least (o ∷ orders) (a ∷ after) le is k room = (has_kept spare least o a is.0 k.0 (omega (arith, le, room.0)), each_filled spare more least orders after le is.1 k.1 room.1)
