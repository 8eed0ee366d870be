-- The next row of a parent, by an order of the parent's key with the row's own behind it.
use Rattle.std.proofs.Common.{◌≡◌, ℕ, zero, suc, ◌+◌, ◌<◌, ◌≤◌, List, [], ◌∷◌, ◌++◌, length, take, drop, nat_le, slice_get, Option, Some, None, Bool, true, false, cond, ◌&&◌, refl, sym, ap, subst, ◌∙◌, inl, inr, arith}
use Rattle.std.proofs.lemmas.Bool.{cases_lt}
use Rattle.std.proofs.lemmas.List.{length-map}
use Rattle.std.specs.Option.{option_map}
use Rattle.std.specs.FinMap as fm
use Rattle.slab.specs.Slab.{Slab}
use Rattle.indexed_rows.specs.row_types.specs.declared.value.Value.{Value}
use Rattle.indexed_rows.specs.row_types.specs.Order.{key_order}
use Rattle.indexed_rows.specs.row_types.proofs.OrderLaws.{key_total}
use Rattle.indexed_rows.specs.Places.{IsGapFor, IsKeyAt, IsSplitAt}
use Rattle.indexed_rows.proofs.MapLaws.{entries_of, has_key, keys_at_least, keys_below}
use Rattle.indexed_rows.proofs.Sorted.{split_at_key}
use Rattle.indexed_rows.specs.declared.parents.Parents.{Parents}
use Rattle.indexed_rows.specs.Indexes.{IsFirstOf, IsIndexOf, behind}
use Rattle.indexed_rows.specs.Rows.{Table, has_key as is_with, is_same, key_of}
use Rattle.indexed_rows.proofs.EntryLaws.{has_at, mapped_at, read, some_of, there}
use Rattle.indexed_rows.proofs.FirstLaws.{no_more}
use Rattle.indexed_rows.proofs.ParentLaws.{first_here, first_past, its_child, no_child}
use Rattle.slot_rows.specs.Leads.{lead_of}
use Rattle.slot_rows.specs.Orders.{IsOther, IsStart, place_from}
use Rattle.slot_rows.specs.Slots.{AreOrdered, entries_in, entry_in, row_in, slot_at_front, slots_of, table_in}
use Rattle.slot_rows.specs.declared.order.Entry.{Entry}
use Rattle.slot_rows.specs.declared.order.Order.{Order}
use Rattle.slot_rows.proofs.FrontLaws.{find_slot}
use Rattle.slot_rows.proofs.ManyLaws.{key_of_append, key_of_slot, keys_are, not_absent, slot_of_key}
use Rattle.slot_rows.proofs.OrderLaws.{is_live, row_at_key, same_len, table_len}

abbrev Row : Type 0
Row = List Value

-- the lead of a key is that of its first value
pub lead_more : (values rest : Row) → 0 < length values → lead_of values ≡ lead_of (values ++ rest)
lead_more [] rest some = absurd (omega (arith, some))
lead_more (v ∷ values) rest some = refl

key_long : (places : List ℕ) (row : Row) → length (key_of places row) ≡ length places
key_long [] row = refl
key_long (p ∷ places) row = ap suc (key_long places row)

take_front : {X : Type 0} (xs ys : List X) (n : ℕ) → length xs ≡ n → take n (xs ++ ys) ≡ xs
take_front [] ys zero e = refl
take_front [] ys (suc n) e = absurd (omega (arith, e))
take_front (x ∷ xs) ys zero e = absurd (omega (arith, e))
take_front (x ∷ xs) ys (suc n) e = ap (λ l. x ∷ l) (take_front xs ys n (omega (arith, e)))

drop_front : {X : Type 0} (xs ys : List X) (n : ℕ) → length xs ≡ n → drop n (xs ++ ys) ≡ ys
drop_front [] ys zero e = refl
drop_front [] ys (suc n) e = absurd (omega (arith, e))
drop_front (x ∷ xs) ys zero e = absurd (omega (arith, e))
drop_front (x ∷ xs) ys (suc n) e = drop_front xs ys n (omega (arith, e))

up_to : (m n : ℕ) → m ≤ n → nat_le m n ≡ true
up_to m n le = grind arith

past_none : (slots : List ℕ) (n : ℕ) → length slots ≤ n → slice_get slots n ≡ None
past_none [] zero le = refl
past_none [] (suc n) le = refl
past_none (s ∷ slots) zero le = absurd (omega (arith, le))
past_none (s ∷ slots) (suc n) le = past_none slots n (omega (arith, le))

slot_entry : (slab : Slab Row) (places slots : List ℕ) (i s : ℕ) → slice_get slots i ≡ Some s → slice_get (entries_in slab places slots) i ≡ Some (entry_in slab places s)
slot_entry slab places slots i s at = mapped_at (entry_in slab places) slots i s at

-- a split at a key that is there
pub start_of : (m : Table) (key : Row) (i : ℕ) → IsKeyAt (fm.entries m) key i → i < fm.len m → IsStart m key i
start_of m key i found lt =
    let split = split_at_key key_order key_total (fm.entries m) key i (fm.entries_sorted m) found in
    let le : i ≤ fm.len m = omega (arith, lt) in
    record { within = le; below = keys_below m key i split le; at_least = keys_at_least m key i split le }

module _ (slab : Slab Row) (places : List ℕ) (entries : List Entry) (are : AreOrdered slab places entries) (spare : ℕ) (order : Order) (is : IsOther slab places entries spare order) where
  abbrev columns : List ℕ
  columns = is.wider.0

  abbrev rows : Table
  rows = table_in slab places entries

  abbrev index : Parents
  index = record { columns = columns; entries = table_in slab order.places order.entries }

  wide_key : (row : Row) → key_of order.places row ≡ key_of columns row ++ key_of places row
  wide_key row = ap (λ ps. key_of ps row) is.wider.1 ∙ key_of_append columns places row

  -- the order by other columns is an index of the rows
  is_index : IsIndexOf index rows
  is_index = record {
    has = λ key row at.
        let found = sym (fm.get-entries rows key ∙ ap (fm.find key_order key) (entries_of (entries_in slab places (slots_of entries)) rows are.slots.sorted refl)) ∙ at in
        let s = find_slot slab places key row (slots_of entries) found in
        let other = is.entered s.0 s.1 s.2 in
        let here = key_of_slot slab order.places order.entries is.ordered other.0 s.1 other.1 in
        let same : key_of order.places (row_in slab s.1) ≡ key_of columns row ++ key = wide_key (row_in slab s.1) ∙ ap (λ r. key_of columns r ++ key_of places (row_in slab s.1)) s.3 ∙ ap (λ k. key_of columns row ++ k) s.4 in
        ap (λ k. fm.contains_key index.entries k) (sym same) ∙ has_key index.entries (key_of order.places (row_in slab s.1)) other.0 here;
    only = λ entry has.
        let o = some_of (fm.get index.entries entry) has in
        let at = has_at index.entries entry o.0 o.1 in
        let s = slot_of_key slab order.places order.entries is.ordered entry at.0 (mapped_at (λ e. e.0) (fm.entries index.entries) at.0 (entry, o.0) at.1) in
        let here = is.only at.0 s.0 s.1 in
        let inside : here.0 < length entries = subst (λ n. here.0 < n) (same_len entries) (read (slots_of entries) here.0 s.0 0 here.1).0 in
        record {
          key = key_of places (row_in slab s.0);
          row = row_in slab s.0;
          there = sym (row_at_key slab places entries are (key_of places (row_in slab s.0)) here.0 s.0 inside here.1 (key_of_slot slab places entries are here.0 s.0 here.1)) ∙ is_live slab s.0 (are.slots.live here.0 s.0 here.1);
          is = sym s.2 ∙ wide_key (row_in slab s.0);
        };
  }

  module _ (values : Row) (long : length columns ≡ length values) where
    pub columns_are : take (length values) order.places ≡ columns
    columns_are = ap (take (length values)) is.wider.1 ∙ take_front columns places (length values) long

    -- what stands behind the values in the entry of a slot
    behind_slot : (slot : ℕ) → behind (key_of order.places (row_in slab slot)) (length columns) values ≡ cond (is_same (key_of columns (row_in slab slot)) values) (Some (key_of places (row_in slab slot))) None
    behind_slot slot =
        let row = row_in slab slot in
        let front = key_of columns row in
        let rest = key_of places row in
        let fits = up_to (length columns) (length (front ++ rest)) (subst (λ n. length columns ≤ n) (ap length (wide_key row)) (omega (arith, key_long order.places row, is_long))) in
        ap (λ l. behind l (length columns) values) (wide_key row)
        ∙ ap (λ b. cond (b && is_same (take (length columns) (front ++ rest)) values) (Some (drop (length columns) (front ++ rest))) None) fits
        ∙ ap (λ l. cond (is_same l values) (Some (drop (length columns) (front ++ rest))) None) (take_front front rest (length columns) (key_long columns row))
        ∙ ap (λ l. cond (is_same front values) (Some l) None) (drop_front front rest (length columns) (key_long columns row))
      where
        is_long : length columns ≤ length order.places
        is_long = let e = ap length is.wider.1 ∙ sum columns places in omega (arith, e)
          where
            sum : (xs ys : List ℕ) → length (xs ++ ys) ≡ length xs + length ys
            sum [] ys = omega arith
            sum (x ∷ xs) ys = let r = sum xs ys in omega (arith, r)

    slot_there : (slot : ℕ) → option_map (λ s. key_of places (row_in slab s)) (slot_at_front slab columns values (Some slot)) ≡ cond (is_same (key_of columns (row_in slab slot)) values) (Some (key_of places (row_in slab slot))) None
    slot_there slot = by (is_same (key_of columns (row_in slab slot)) values)
      where
        by : (b : Bool) → option_map (λ s. key_of places (row_in slab s)) (cond b (Some slot) None) ≡ cond b (Some (key_of places (row_in slab slot))) None
        by true = refl
        by false = refl

    -- the first entry that isn't below a row's own tells the first row of the values from that row on
    pub first_by : (least : Row) (n : ℕ) → IsStart index.entries (values ++ least) n → IsFirstOf columns rows values least (option_map (λ s. key_of places (row_in slab s)) (slot_at_front slab columns values (slice_get (slots_of order.entries) n)))
    first_by least n start = elim (cases_lt n (length order.entries)) [
      | inl lt ↦
          let within : n < length (slots_of order.entries) = subst (λ m. n < m) (sym (same_len order.entries)) lt in
          let s = there (slots_of order.entries) n within in
          let at = ap (λ es. slice_get es n) (keys_are slab order.places order.entries is.ordered) ∙ slot_entry slab order.places (slots_of order.entries) n s.0 s.1 in
          let first = first_here index rows is_index values least n start.below start.at_least (entry_in slab order.places s.0) at in
          subst (IsFirstOf columns rows values least) (behind_slot s.0 ∙ sym (slot_there s.0) ∙ ap (λ o. option_map (λ s. key_of places (row_in slab s)) (slot_at_front slab columns values o)) (sym s.1)) first
      | inr ge ↦
          let past : fm.len index.entries ≤ n = subst (λ m. m ≤ n) (sym (table_len slab order.places order.entries is.ordered)) ge in
          let none = past_none (slots_of order.entries) n (subst (λ m. m ≤ n) (sym (same_len order.entries)) ge) in
          subst (IsFirstOf columns rows values least) (ap (λ o. option_map (λ s. key_of places (row_in slab s)) (slot_at_front slab columns values o)) (sym none)) (first_past index rows is_index values least n start.below past)
    ]

    -- a slot that was found is one of the rows
    pub slot_is : (n slot : ℕ) → slot_at_front slab columns values (slice_get (slots_of order.entries) n) ≡ Some slot → (j : ℕ) × (slice_get (slots_of entries) j ≡ Some slot)
    slot_is n slot e = by (slice_get (slots_of order.entries) n) refl e
      where
        same : (b : Bool) (s : ℕ) → cond b (Some s) None ≡ Some slot → s ≡ slot
        same true s e = cc
        same false s e = cc

        by : (o : Option ℕ) → slice_get (slots_of order.entries) n ≡ o → slot_at_front slab columns values o ≡ Some slot → (j : ℕ) × (slice_get (slots_of entries) j ≡ Some slot)
        by None f e = cc
        by (Some s) f e = is.only n slot (f ∙ ap Some (same (is_same (key_of columns (row_in slab s)) values) s e))

    module _ (from least : ℕ) (here : slice_get (slots_of entries) from ≡ Some least) (n : ℕ) (start : IsStart index.entries (values ++ key_of places (row_in slab least)) n) where
      entry_here : slice_get (fm.entries rows) from ≡ Some (entry_in slab places least)
      entry_here = ap (λ es. slice_get es from) (keys_are slab places entries are) ∙ slot_entry slab places (slots_of entries) from least here

      abbrev found : Option ℕ
      found = slot_at_front slab columns values (slice_get (slots_of order.entries) n)

      pub none_from : found ≡ None → None ≡ place_from rows columns values from
      none_from none =
          no_child columns rows values from (entry_in slab places least) entry_here
          (subst (IsFirstOf columns rows values (key_of places (row_in slab least))) (ap (option_map (λ s. key_of places (row_in slab s))) none) (first_by (key_of places (row_in slab least)) n start))

      pub one_from : (slot place : ℕ) → found ≡ Some slot → IsStart rows (key_of places (row_in slab slot)) place → Some place ≡ place_from rows columns values from
      one_from slot place one at =
          its_child columns rows values from (entry_in slab places least) entry_here (key_of places (row_in slab slot)) place
          (subst (IsFirstOf columns rows values (key_of places (row_in slab least))) (ap (option_map (λ s. key_of places (row_in slab s))) one) (first_by (key_of places (row_in slab least)) n start)) at.below at.at_least

-- a split at a key
pub start_split : (slab : Slab Row) (places : List ℕ) (entries : List Entry) (are : AreOrdered slab places entries) (key : Row) (i : ℕ) → IsSplitAt (fm.entries (table_in slab places entries)) key i → i ≤ length entries → IsStart (table_in slab places entries) key i
start_split slab places entries are key i split le =
    let within : i ≤ fm.len (table_in slab places entries) = subst (λ n. i ≤ n) (sym (table_len slab places entries are)) le in
    record { within = within; below = keys_below (table_in slab places entries) key i split within; at_least = keys_at_least (table_in slab places entries) key i split within }

front_long : (n : ℕ) (columns places wide : List ℕ) → wide ≡ columns ++ places → n + length places ≡ length wide → length columns ≡ n
front_long n columns places wide is e = let s = ap length is ∙ sum columns places in omega (arith, s, e)
  where
    sum : (xs ys : List ℕ) → length (xs ++ ys) ≡ length xs + length ys
    sum [] ys = omega arith
    sum (x ∷ xs) ys = let r = sum xs ys in omega (arith, r)

-- what a search by another order tells
module _ (slab : Slab Row) (places : List ℕ) (entries : List Entry) (are : AreOrdered slab places entries) (spare : ℕ) (order : Order) (is : IsOther slab places entries spare order) (values : Row) (before : length values + length places ≡ length order.places)
    (from least : ℕ) (here : slice_get (slots_of entries) from ≡ Some least) (n : ℕ) (start : IsStart (table_in slab order.places order.entries) (values ++ key_of places (row_in slab least)) n) where
  abbrev front : List ℕ
  front = take (length values) order.places

  abbrev sought : Option ℕ
  sought = slot_at_front slab front values (slice_get (slots_of order.entries) n)

  long : length is.wider.0 ≡ length values
  long = front_long (length values) is.wider.0 places order.places is.wider.1 before

  front_is : front ≡ is.wider.0
  front_is = columns_are slab places entries are spare order is values long

  found_is : (o : Option ℕ) → o ≡ sought → slot_at_front slab is.wider.0 values (slice_get (slots_of order.entries) n) ≡ o
  found_is o e = ap (λ ps. slot_at_front slab ps values (slice_get (slots_of order.entries) n)) (sym front_is) ∙ sym e

  pub next_none : None ≡ sought → None ≡ place_from (table_in slab places entries) front values from
  next_none e = none_from slab places entries are spare order is values long from least here n start (found_is None e) ∙ ap (λ ps. place_from (table_in slab places entries) ps values from) (sym front_is)

  pub next_one : (slot place : ℕ) → Some slot ≡ sought → IsKeyAt (fm.entries (table_in slab places entries)) (key_of places (row_in slab slot)) place → place < length entries → Some place ≡ place_from (table_in slab places entries) front values from
  next_one slot place e found lt =
      one_from slab places entries are spare order is values long from least here n start slot place (found_is (Some slot) e)
      (start_of (table_in slab places entries) (key_of places (row_in slab slot)) place found (subst (λ m. place < m) (sym (table_len slab places entries are)) lt))
      ∙ ap (λ ps. place_from (table_in slab places entries) ps values from) (sym front_is)

  pub next_never : (slot i : ℕ) → Some slot ≡ sought → IsGapFor (fm.entries (table_in slab places entries)) (key_of places (row_in slab slot)) i → ⊥
  next_never slot i e gap =
      let s = slot_is slab places entries are spare order is values long n slot (found_is (Some slot) e) in
      not_absent slab places entries are s.0 slot s.1 i gap

-- there is no row from the end on
pub next_past : (slab : Slab Row) (places : List ℕ) (entries : List Entry) (are : AreOrdered slab places entries) (columns : List ℕ) (values : Row) (from : ℕ) → length entries ≤ from → None ≡ place_from (table_in slab places entries) columns values from
next_past slab places entries are columns values from past =
    let m = table_in slab places entries in
    sym (no_more (is_with columns values) (fm.values m) from (omega (arith, past, length-map (fm.entries m) (λ x. x.1), fm.len-entries m, table_len slab places entries are)))
