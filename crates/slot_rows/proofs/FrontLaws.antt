-- Rows found by the first columns of an order, and rows put over others.
use Rattle.std.proofs.Common.{◌≡◌, ◌≢◌, ℕ, zero, suc, ◌<◌, ◌≤◌, List, [], ◌∷◌, ◌++◌, length, map, take, get_or, slice_get, Option, Some, None, is_some, Bool, true, false, cond, T, Result, Ok, Err, Less, Equal, Greater, Ordering, refl, sym, ap, subst, ◌∙◌, inl, inr, arith}
use Rattle.std.proofs.lemmas.Bool.{cases_lt}
use Rattle.std.proofs.lemmas.Cmp.{alike_right, tied_itself}
use Rattle.std.proofs.lemmas.List.{get_or-map}
use Rattle.std.proofs.lemmas.Option.{slice_get-get_or}
use Rattle.std.specs.List.Sorted.{IsBinarySearchResult, IsSearchInRange}
use Rattle.std.specs.Ordering.{eq_by_cmp, is_eq, ordering_index, ordering_then}
use Rattle.std.specs.FinMap as fm
use Rattle.slab.specs.Slab.{Slab, get}
use Rattle.indexed_rows.specs.row_types.specs.declared.value.Value.{Value}
use Rattle.indexed_rows.specs.row_types.specs.Order.{key_order, order_of}
use Rattle.indexed_rows.specs.row_types.proofs.OrderLaws.{key_exact, key_total, order_total}
use Rattle.indexed_rows.proofs.MapLaws.{entries_of}
use Rattle.indexed_rows.proofs.Sorted.{sorted_tail}
use Rattle.indexed_rows.specs.Rows.{Table, key_of, put_over}
use Rattle.indexed_rows.proofs.EntryLaws.{same_values}
use Rattle.slot_rows.specs.Leads.{lead_first, lead_of}
use Rattle.slot_rows.specs.Orders.{AllIn, Each, EachNow, EmptiesOrder, IsOther, IsRowWith, IsSlotWith, IsWider}
use Rattle.slot_rows.specs.Slots.{AreOrdered, entries_in, entry_in, row_in, slots_of, table_in}
use Rattle.slot_rows.specs.declared.order.Entry.{Entry}
use Rattle.slot_rows.specs.declared.order.Order.{Order}
use Rattle.slot_rows.proofs.LeadLaws.{lead_agrees}
use Rattle.slot_rows.proofs.ManyLaws.{key_of_slot}
use Rattle.slot_rows.proofs.OrderLaws.{is_live, no_entry, row_at_key, same_len, slot_in}
use Rattle.slot_rows.proofs.SlotLaws.{above, mapped_search}

abbrev Row : Type 0
Row = List Value

up_to_two : (r : Ordering) → ordering_index r ≤ 2
up_to_two Less = omega arith
up_to_two Equal = omega arith
up_to_two Greater = omega arith

same_then : (r s p q : Ordering) → r ≡ s → ordering_index p ≤ ordering_index q → ordering_index (ordering_then r p) ≤ ordering_index (ordering_then s q)
same_then r s p q e h = subst (λ t. ordering_index (ordering_then t p) ≤ ordering_index (ordering_then s q)) (sym e) (by s)
  where
    by : (s : Ordering) → ordering_index (ordering_then s p) ≤ ordering_index (ordering_then s q)
    by Less = omega arith
    by Equal = h
    by Greater = omega arith

low_then : (r s p q : Ordering) → r ≡ Less → ordering_index (ordering_then r p) ≤ ordering_index (ordering_then s q)
low_then r s p q e = let z : ordering_index (ordering_then r p) ≡ 0 = ap (λ t. ordering_index (ordering_then t p)) e in omega (arith, z)

high_then : (r s p q : Ordering) → s ≡ Greater → ordering_index (ordering_then r p) ≤ ordering_index (ordering_then s q)
high_then r s p q e = let z : ordering_index (ordering_then s q) ≡ 2 = ap (λ t. ordering_index (ordering_then t q)) e in omega (arith, z, up_to_two (ordering_then r p))

-- where keys rise, so do their fronts, as far as a shorter key can tell
front_rises : (x y v : Row) → key_order x y ≡ Less → ordering_index (key_order (take (length v) x) v) ≤ ordering_index (key_order (take (length v) y) v)
front_rises x y [] less = omega arith
front_rises [] y (w ∷ v) less = omega arith
front_rises (a ∷ x) [] (w ∷ v) less = cc
front_rises (a ∷ x) (b ∷ y) (w ∷ v) less = by (order_of a b) refl less (front_rises x y v)
  where
    first : (r : Ordering) → order_of b w ≡ r → order_of a b ≡ Less → ordering_index (key_order (a ∷ take (length v) x) (w ∷ v)) ≤ ordering_index (key_order (b ∷ take (length v) y) (w ∷ v))
    first Less e f = low_then (order_of a w) (order_of b w) _ _ (order_total.trans a b w f e)
    first Equal e f = low_then (order_of a w) (order_of b w) _ _ (sym (alike_right order_total b w a e) ∙ f)
    first Greater e f = high_then (order_of a w) (order_of b w) _ _ e

    by : (r : Ordering) → order_of a b ≡ r → ordering_then r (key_order x y) ≡ Less → (key_order x y ≡ Less → ordering_index (key_order (take (length v) x) v) ≤ ordering_index (key_order (take (length v) y) v))
        → ordering_index (key_order (a ∷ take (length v) x) (w ∷ v)) ≤ ordering_index (key_order (b ∷ take (length v) y) (w ∷ v))
    by Less e f rest = first (order_of b w) refl e
    by Equal e f rest = same_then (order_of a w) (order_of b w) _ _ (order_total.congr a b w e) (rest f)
    by Greater e f rest = cc

pub front_key : (n : ℕ) (places : List ℕ) (row : Row) → take n (key_of places row) ≡ key_of (take n places) row
front_key zero places row = refl
front_key (suc n) [] row = refl
front_key (suc n) (p ∷ places) row = ap (λ l. key_of (p ∷ []) row ++ l) (front_key n places row)

lead_front : (n : ℕ) (places : List ℕ) (row : Row) → 0 < n → lead_of (key_of (take n places) row) ≡ lead_of (key_of places row)
lead_front zero places row some = absurd (omega (arith, some))
lead_front (suc n) [] row some = refl
lead_front (suc n) (p ∷ places) row some = refl

is_got : (xs : List ℕ) (i x : ℕ) → slice_get xs i ≡ Some x → (i < length xs) × ((d : ℕ) → get_or xs i d ≡ x)
is_got [] i x e = cc
is_got (y ∷ xs) zero x e = (omega arith, λ d. (let z : y ≡ x = cc in z))
is_got (y ∷ xs) (suc i) x e = let r = is_got xs i x e in (omega (arith, r.0), r.1)

-- slots that stand in order have keys in order
ordered_at : (slab : Slab Row) (places slots : List ℕ) → T (fm.is_sorted key_order (entries_in slab places slots)) → (a b s t : ℕ) → a < b → slice_get slots a ≡ Some s → slice_get slots b ≡ Some t → key_order (key_of places (row_in slab s)) (key_of places (row_in slab t)) ≡ Less
ordered_at slab places [] h a b s t lt e f = cc
ordered_at slab places (x ∷ slots) h zero zero s t lt e f = absurd (omega (arith, lt))
ordered_at slab places (x ∷ slots) h zero (suc b) s t lt e f = let z : x ≡ s = cc in subst (λ q. key_order (key_of places (row_in slab q)) (key_of places (row_in slab t)) ≡ Less) z (above slab places x slots h b t f)
ordered_at slab places (x ∷ slots) h (suc a) zero s t lt e f = absurd (omega (arith, lt))
ordered_at slab places (x ∷ slots) h (suc a) (suc b) s t lt e f = ordered_at slab places slots (sorted_tail key_order (entry_in slab places x) (entries_in slab places slots) h) a b s t (omega (arith, lt)) e f

module _ (slab : Slab Row) (places : List ℕ) (entries : List Entry) (are : AreOrdered slab places entries) (values : Row) (some : 0 < length values) (sought : ℕ) (leads : sought ≡ lead_of values) where
  abbrev front : ℕ → Row
  front slot = key_of (take (length values) places) (row_in slab slot)

  agrees : (i : ℕ) (d : Entry) → i < length entries → lead_first (get_or entries i d).lead sought (key_order (front (get_or entries i d).slot) values) ≡ key_order (front (get_or entries i d).slot) values
  agrees i d h =
      let e = get_or entries i d in
      ap (λ l. lead_first l sought (key_order (front e.slot) values)) (are.led i e (slice_get-get_or entries i d h) ∙ sym (lead_front (length values) places (row_in slab e.slot) some))
      ∙ ap (λ l. lead_first (lead_of (front e.slot)) l (key_order (front e.slot) values)) leads
      ∙ lead_agrees (front e.slot) values

  rises : (a b d : ℕ) → a ≤ b → b < length (slots_of entries) → ordering_index (key_order (front (get_or (slots_of entries) a d)) values) ≤ ordering_index (key_order (front (get_or (slots_of entries) b d)) values)
  rises a b d le lt = elim (cases_lt a b) [
    | inl below ↦
        let s = get_or (slots_of entries) a d in
        let t = get_or (slots_of entries) b d in
        let less = ordered_at slab places (slots_of entries) are.slots.sorted a b s t below (slice_get-get_or (slots_of entries) a d (omega arith)) (slice_get-get_or (slots_of entries) b d lt) in
        let up = front_rises (key_of places (row_in slab s)) (key_of places (row_in slab t)) values less in
        let one = ap (λ k. ordering_index (key_order k values)) (front_key (length values) places (row_in slab s)) in
        let two = ap (λ k. ordering_index (key_order k values)) (front_key (length values) places (row_in slab t)) in omega (arith, up, one, two)
    | inr above ↦ let z : a ≡ b = omega arith in let same = ap (λ i. ordering_index (key_order (front (get_or (slots_of entries) i d)) values)) z in omega (arith, same)
  ]

  by_front : (r : Result ℕ ℕ) → IsSearchInRange r (length entries) → IsBinarySearchResult (λ e. lead_first e.lead sought (key_order (front e.slot) values)) entries r → IsBinarySearchResult (λ s. key_order (front s) values) (slots_of entries) r
  by_front r bound found = mapped_search slot_in (λ e. lead_first e.lead sought (key_order (front e.slot) values)) (λ s. key_order (front s) values) entries no_entry agrees r bound found

  pub front_found : (i slot : ℕ) → i < length entries → slice_get (slots_of entries) i ≡ Some slot → IsBinarySearchResult (λ e. lead_first e.lead sought (key_order (front e.slot) values)) entries (Ok i) → front slot ≡ values
  front_found i slot bound at found =
      key_exact (front slot) values (ap (λ s. key_order (front s) values) (sym ((is_got (slots_of entries) i slot at).1 0)) ∙ by_front (Ok i) bound found 0)

  pub front_absent : (i : ℕ) → i ≤ length entries → IsBinarySearchResult (λ e. lead_first e.lead sought (key_order (front e.slot) values)) entries (Err i) → (k slot : ℕ) → slice_get (slots_of entries) k ≡ Some slot → front slot ≢ values
  front_absent i bound found k slot at same =
      let point = by_front (Err i) bound found (λ a b d le lt. rises a b d le lt) in
      let g = is_got (slots_of entries) k slot at in
      let here : key_order (front (get_or (slots_of entries) k 0)) values ≡ Equal = ap (λ s. key_order (front s) values) (g.1 0) ∙ ap (λ v. key_order v values) same ∙ tied_itself key_total values in
      elim (cases_lt k i) [
        | inl below ↦ let less = point.0 k 0 (omega arith) below in cc
        | inr above ↦ let greater = point.1 k 0 above g.0 in cc
      ]

-- the slot of a row of the table
module _ (slab : Slab Row) (places : List ℕ) (key row : Row) where
  pub find_slot : (slots : List ℕ) → fm.find key_order key (entries_in slab places slots) ≡ Some row → (j : ℕ) × (slot : ℕ) × (slice_get slots j ≡ Some slot) × (row_in slab slot ≡ row) × (key_of places (row_in slab slot) ≡ key)
  find_slot [] e = cc
  find_slot (s ∷ slots) e = by (eq_by_cmp key_order key (key_of places (row_in slab s))) refl e (find_slot slots)
    where
      by : (b : Bool) → eq_by_cmp key_order key (key_of places (row_in slab s)) ≡ b → cond b (Some (row_in slab s)) (fm.find key_order key (entries_in slab places slots)) ≡ Some row
          → (fm.find key_order key (entries_in slab places slots) ≡ Some row → (j : ℕ) × (slot : ℕ) × (slice_get slots j ≡ Some slot) × (row_in slab slot ≡ row) × (key_of places (row_in slab slot) ≡ key))
          → (j : ℕ) × (slot : ℕ) × (slice_get (s ∷ slots) j ≡ Some slot) × (row_in slab slot ≡ row) × (key_of places (row_in slab slot) ≡ key)
      by true t e rest = (0, s, refl, (let z : row_in slab s ≡ row = cc in z), sym (same_values key (key_of places (row_in slab s)) t))
      by false t e rest = let r = rest e in (suc r.0, r.1, r.2, r.3, r.4)

-- the slot found in another order is that of a row of the table
module _ (slab : Slab Row) (places : List ℕ) (entries : List Entry) (are : AreOrdered slab places entries) (spare : ℕ) (order : Order) (is : IsOther slab places entries spare order) (columns : List ℕ) (values : Row) where
  pub row_with : (slot : ℕ) (found : Option Row) → found ≡ get slab slot → IsSlotWith slab (slots_of order.entries) columns values (Some slot) → IsRowWith (table_in slab places entries) places columns values found
  row_with slot found e with_slot =
      let here = is.only with_slot.0 slot with_slot.1 in
      let live = is_live slab slot (are.slots.live here.0 slot here.1) in
      let inside : here.0 < length entries = subst (λ n. here.0 < n) (same_len entries) (is_got (slots_of entries) here.0 slot here.1).0 in
      subst (IsRowWith (table_in slab places entries) places columns values) (sym (e ∙ live)) (
        sym (row_at_key slab places entries are (key_of places (row_in slab slot)) here.0 slot inside here.1 (key_of_slot slab places entries are here.0 slot here.1)) ∙ live,
        with_slot.2,
      )

  pub no_row_with : IsSlotWith slab (slots_of order.entries) columns values None → IsRowWith (table_in slab places entries) places columns values None
  no_row_with none key row at same =
      let found = sym (fm.get-entries (table_in slab places entries) key ∙ ap (fm.find key_order key) (entries_of (entries_in slab places (slots_of entries)) (table_in slab places entries) are.slots.sorted refl)) ∙ at in
      let s = find_slot slab places key row (slots_of entries) found in
      let other = is.entered s.0 s.1 s.2 in
      none other.0 s.1 other.1 (ap (key_of columns) s.3 ∙ same)

pub each_at : (P : Order → Type 0) (orders : List Order) → Each P orders → (i : ℕ) (d : Order) → i < length orders → P (get_or orders i d)
each_at P [] each i d lt = absurd (omega (arith, lt))
each_at P (o ∷ orders) each zero d lt = each.0
each_at P (o ∷ orders) each (suc i) d lt = each_at P orders each.1 i d (omega (arith, lt))

pub each_more : (P : Order → Type 0) (orders : List Order) (order : Order) → Each P orders → P order → Each P (orders ++ order ∷ [])
each_more P [] order each one = (one, tt)
each_more P (o ∷ orders) order each one = (each.0, each_more P orders order each.1 one)

pub columns_at : (orders : List Order) (i : ℕ) (d : Order) → i < length orders → get_or (map (λ o. o.places) orders) i [] ≡ (get_or orders i d).places
columns_at orders i d lt = get_or-map (λ o. o.places) orders i d [] lt

-- a row over another
pub put_again : (m : Table) (k row : Row) → fm.contains_key m k ≡ true → fm.insert (fm.remove m k) k row ≡ put_over m k row
put_again m k row has =
    fm.same_map key_total key_exact (fm.insert (fm.remove m k) k row) (fm.insert m k row) (λ q.
    fm.get-insert key_total (fm.remove m k) k row q ∙ ap (λ o. cond (eq_by_cmp key_order q k) (Some row) o) (fm.get-remove key_total m k q) ∙ by (eq_by_cmp key_order q k) (fm.get m q) ∙ sym (fm.get-insert key_total m k row q))
    ∙ ap (λ b. cond b (fm.insert m k row) m) (sym has)
  where
    by : (b : Bool) (o : Option Row) → cond b (Some row) (cond b None o) ≡ cond b (Some row) o
    by true o = refl
    by false o = refl

pub not_left : (m : Table) (k : Row) → fm.contains_key (fm.remove m k) k ≡ false
not_left m k = ap is_some (fm.get-remove key_total m k k) ∙ ap (λ r. is_some (cond (is_eq r) None (fm.get m k))) (tied_itself key_total k)

-- an order of no rows
pub first_order : (slab : Slab Row) (places : List ℕ) (entries : List Entry) (spare : ℕ) (order : Order) → entries ≡ [] → order.entries ≡ [] → IsWider order.places places → spare ≤ length order.room.items → IsOther slab places entries spare order
first_order slab places entries spare order none empty wider room = record {
  ordered = subst (AreOrdered slab order.places) (sym empty) (record { slots = record { live = λ i s e. cc; sorted = tt }; led = λ i e x. cc });
  entered = subst (λ es. AllIn (slots_of es) (slots_of order.entries)) (sym none) (λ i s e. cc);
  only = subst (λ es. AllIn (slots_of es) (slots_of entries)) (sym empty) (λ i s e. cc);
  long = ap length empty ∙ ap length (sym none);
  wider = wider;
  room = room;
}

pub none_ordered : (slab : Slab Row) (places : List ℕ) (entries : List Entry) → entries ≡ [] → AreOrdered slab places entries
none_ordered slab places entries empty = subst (AreOrdered slab places) (sym empty) (record { slots = record { live = λ i s e. cc; sorted = tt }; led = λ i e x. cc })

-- all orders lose their slots
pub each_emptied : (slab new : Slab Row) (places : List ℕ) (entries now : List Entry) (spare : ℕ) → now ≡ [] → (orders after : List Order) → Each (IsOther slab places entries spare) orders → EachNow EmptiesOrder orders after → Each (IsOther new places now spare) after
each_emptied slab new places entries now spare none [] [] is e = tt
each_emptied slab new places entries now spare none [] (a ∷ after) is e = absurd e
each_emptied slab new places entries now spare none (o ∷ orders) [] is e = absurd e
each_emptied slab new places entries now spare none (o ∷ orders) (a ∷ after) is e = (
  first_order new places now spare a none e.0.entries (subst (λ ps. IsWider ps places) (sym e.0.places) is.0.wider) (subst (λ r. spare ≤ length r.items) (sym e.0.room) is.0.room),
  each_emptied slab new places entries now spare none orders after is.1 e.1,
)
