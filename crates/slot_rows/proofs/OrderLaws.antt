-- Entries in order: slots with leads.
use Rattle.std.proofs.Common.{◌≡◌, ◌≢◌, ℕ, zero, suc, ◌<◌, List, [], ◌∷◌, length, get_or, slice_get, Option, Some, None, is_some, unwrap_or, true, false, cond, T, Result, IfOk, IfErr, MatchResult, refl, sym, ap, subst, ◌∙◌, inl, inr}
use Rattle.std.proofs.lemmas.List.{length-map}
use Rattle.std.proofs.lemmas.Option.{slice_get-get_or}
use Rattle.std.specs.List.{insert, remove}
use Rattle.std.specs.List.Sorted.{IsBinarySearchResult, IsSearchInRange}
use Rattle.std.specs.FinMap as fm
use Rattle.slab.specs.Slab.{Slab, Updates, get}
use Rattle.indexed_rows.specs.row_types.specs.declared.value.Value.{Value}
use Rattle.indexed_rows.specs.row_types.specs.declared.value.Value.TheVariants.{Null}
use Rattle.indexed_rows.specs.row_types.specs.Order.{key_order}
use Rattle.indexed_rows.specs.Places.{IsGapFor, IsKeyAt, IsSplitAt}
use Rattle.indexed_rows.proofs.MapLaws.{found_gap, found_key, found_split, goes_in, length_of, now_has, now_sorted, removed, slice_get_map}
use Rattle.slot_rows.specs.Leads.{lead, lead_first, lead_of}
use Rattle.indexed_rows.specs.Rows.{Table, key_of, put_in}
use Rattle.slot_rows.specs.Slots.{AreOrdered, AreSlots, entries_in, entry_in, row_in, slots_of, table_in}
use Rattle.slot_rows.specs.declared.order.Entry.{Entry}
use Rattle.slot_rows.proofs.LeadLaws.{lead_agrees}
use Rattle.slot_rows.proofs.SlotLaws.{entries_left, inserted, kept_of, left_slots, map_insert, map_remove, mapped_range, mapped_search, others_differ, row_of_key, row_there, same_rows, value_at_place}

abbrev Row : Type 0
Row = List Value

abbrev pub no_entry : Entry
no_entry = record { lead = 0; slot = 0 }

abbrev pub slot_in : Entry → ℕ
slot_in e = e.slot

pub same_len : (entries : List Entry) → length (slots_of entries) ≡ length entries
same_len entries = length-map entries slot_in

pub slot_there : (entries : List Entry) (i : ℕ) (e : Entry) → i < length entries → e ≡ get_or entries i e → slice_get (slots_of entries) i ≡ Some e.slot
slot_there entries i e h is = slice_get_map slot_in entries i e (slice_get-get_or entries i e h ∙ ap Some (sym is))

is_got : (xs : List ℕ) (i x : ℕ) → slice_get xs i ≡ Some x → x ≡ get_or xs i x
is_got [] i x e = cc
is_got (y ∷ xs) zero x e = let z : y ≡ x = cc in sym z
is_got (y ∷ xs) (suc i) x e = is_got xs i x e

module _ (slab : Slab Row) (places : List ℕ) (entries : List Entry) where
  abbrev rows_of : List (Row × Row)
  rows_of = entries_in slab places (slots_of entries)

  pub table_len : AreOrdered slab places entries → fm.len (table_in slab places entries) ≡ length entries
  table_len are = length_of rows_of (table_in slab places entries) are.slots.sorted refl ∙ length-map (slots_of entries) (entry_in slab places) ∙ same_len entries

  -- what a search by leads first finds, of keys
  module _ (are : AreOrdered slab places entries) (key : Row) (sought : ℕ) (leads : sought ≡ lead_of key) (r : Result ℕ ℕ) (bound : IsSearchInRange r (length entries))
      (found : IsBinarySearchResult (λ e. lead_first e.lead sought (key_order (key_of places (row_in slab e.slot)) key)) entries r) where
    agrees : (i : ℕ) (d : Entry) → i < length entries → lead_first (get_or entries i d).lead sought (key_order (key_of places (row_in slab (get_or entries i d).slot)) key) ≡ key_order (key_of places (row_in slab (get_or entries i d).slot)) key
    agrees i d h =
        let e = get_or entries i d in
        ap (λ l. lead_first l sought (key_order (key_of places (row_in slab e.slot)) key)) (are.led i e (slice_get-get_or entries i d h))
        ∙ ap (λ l. lead_first (lead_of (key_of places (row_in slab e.slot))) l (key_order (key_of places (row_in slab e.slot)) key)) leads
        ∙ lead_agrees (key_of places (row_in slab e.slot)) key

    in_slots : IsSearchInRange r (length (slots_of entries))
    in_slots = mapped_range slot_in entries r bound

    in_rows : IsSearchInRange r (length rows_of)
    in_rows = mapped_range (entry_in slab places) (slots_of entries) r in_slots

    by_slot : IsBinarySearchResult (λ s. key_order (key_of places (row_in slab s)) key) (slots_of entries) r
    by_slot = mapped_search slot_in (λ e. lead_first e.lead sought (key_order (key_of places (row_in slab e.slot)) key)) (λ s. key_order (key_of places (row_in slab s)) key) entries no_entry agrees r bound found

    by_key : IsBinarySearchResult (λ e. key_order e.0 key) rows_of r
    by_key = mapped_search (entry_in slab places) (λ s. key_order (key_of places (row_in slab s)) key) (λ e. key_order e.0 key) (slots_of entries) 0 (λ i d h. refl) r in_slots by_slot

    pub sought_key : IfOk r (IsKeyAt (fm.entries (table_in slab places entries)) key)
    sought_key = found_key rows_of (table_in slab places entries) are.slots.sorted refl key r in_rows by_key

    pub sought_gap : IfErr r (IsGapFor (fm.entries (table_in slab places entries)) key)
    sought_gap = found_gap rows_of (table_in slab places entries) are.slots.sorted refl key r in_rows by_key

    pub sought_split : MatchResult r (IsSplitAt (fm.entries (table_in slab places entries)) key) (IsSplitAt (fm.entries (table_in slab places entries)) key)
    sought_split = found_split rows_of (table_in slab places entries) are.slots.sorted refl key r in_rows by_key

  -- the row at a place, and that of a key
  pub row_at_place : AreOrdered slab places entries → (i slot : ℕ) → i < length entries → slice_get (slots_of entries) i ≡ Some slot → get slab slot ≡ slice_get (fm.values (table_in slab places entries)) i
  row_at_place are i slot h at = value_at_place slab places (slots_of entries) are.slots (table_in slab places entries) refl i slot (subst (λ n. i < n) (sym (same_len entries)) h) (is_got (slots_of entries) i slot at)

  pub row_at_key : AreOrdered slab places entries → (key : Row) (i slot : ℕ) → i < length entries → slice_get (slots_of entries) i ≡ Some slot → IsKeyAt (fm.entries (table_in slab places entries)) key i → get slab slot ≡ fm.get (table_in slab places entries) key
  row_at_key are key i slot h at found = row_of_key slab places (slots_of entries) are.slots (table_in slab places entries) refl key i slot (subst (λ n. i < n) (sym (same_len entries)) h) (is_got (slots_of entries) i slot at) found

  pub row_is_there : AreOrdered slab places entries → (i slot : ℕ) → i < length entries → slice_get (slots_of entries) i ≡ Some slot → get slab slot ≡ Some (row_in slab slot)
  row_is_there are i slot h at = row_there slab places (slots_of entries) are.slots i slot (subst (λ n. i < n) (sym (same_len entries)) h) (is_got (slots_of entries) i slot at)

-- what is put in where its key is
pub put_where_there : (table : Table) (key row : Row) → fm.contains_key table key ≡ true → table ≡ put_in table key row
put_where_there table key row has = ap (λ b. cond b table (fm.insert table key row)) (sym has)

-- the lead of a row's values
pub lead_of_first : (places : List ℕ) (row : Row) (place : ℕ) → slice_get places 0 ≡ Some place → lead_of (key_of places row) ≡ lead (unwrap_or (slice_get row place) Null)
lead_of_first [] row place e = cc
lead_of_first (p ∷ places) row place e = let z : p ≡ place = cc in ap (λ q. lead (unwrap_or (slice_get row q) Null)) z

pub is_live : (slab : Slab Row) (slot : ℕ) → is_some (get slab slot) ≡ true → get slab slot ≡ Some (row_in slab slot)
is_live slab slot live = by (get slab slot) refl live
  where
    by : (o : Option Row) → get slab slot ≡ o → is_some o ≡ true → get slab slot ≡ Some (row_in slab slot)
    by None e live = let x : false ≡ true = live in cc
    by (Some r) e live = e ∙ sym (ap (λ o. Some (unwrap_or o [])) e)

-- another row leaves the orders of the rows that are there
module _ (old new : Slab Row) (slot : ℕ) (row : Row) (vacant : get old slot ≡ None) (u : Updates old new slot (Some row)) (places : List ℕ) (entries : List Entry) (are : AreOrdered old places entries) where
  rows_stay : entries_in new places (slots_of entries) ≡ entries_in old places (slots_of entries)
  rows_stay = same_rows old new slot row vacant u places (slots_of entries) are.slots.live

  pub other : (i s : ℕ) → slice_get (slots_of entries) i ≡ Some s → s ≢ slot
  other i s is = λ q. let z : true ≡ false = sym (are.slots.live i s is) ∙ ap (λ t. is_some (get old t)) q ∙ ap is_some vacant in cc

  pub table_stays : table_in new places entries ≡ table_in old places entries
  table_stays = ap fm.from_sorted rows_stay

  pub gap_stays : (key : Row) (at : ℕ) → IsGapFor (fm.entries (table_in old places entries)) key at → IsGapFor (fm.entries (table_in new places entries)) key at
  gap_stays key at gap = subst (λ m. IsGapFor (fm.entries m) key at) (sym table_stays) gap

  pub order_stays : AreOrdered new places entries
  order_stays = record {
    slots = record {
      live = λ i s is. ap is_some (u.others s (other i s is)) ∙ are.slots.live i s is;
      sorted = subst (λ es. T (fm.is_sorted key_order es)) (sym rows_stay) are.slots.sorted;
    };
    led = λ i x is. are.led i x is ∙ ap (λ o. lead_of (key_of places (unwrap_or o []))) (sym (u.others x.slot (other i x.slot (slice_get_map slot_in entries i x is))));
  }

-- a slot more
module _ (slab : Slab Row) (places : List ℕ) (entries : List Entry) (at : ℕ) (e : Entry) (row : Row) (there : get slab e.slot ≡ Some row) (are : AreOrdered slab places entries)
    (gap : IsGapFor (fm.entries (table_in slab places entries)) (key_of places row) at) where
  pub slots_now : slots_of (insert entries at e) ≡ insert (slots_of entries) at e.slot
  slots_now = map_insert slot_in entries at e

  entry_is : entry_in slab places e.slot ≡ (key_of places row, row)
  entry_is = ap (λ o. (key_of places (unwrap_or o []), unwrap_or o [])) there

  rows_now : entries_in slab places (insert (slots_of entries) at e.slot) ≡ fm.put key_order (key_of places row) row (entries_in slab places (slots_of entries))
  rows_now =
      map_insert (entry_in slab places) (slots_of entries) at e.slot ∙ ap (insert (entries_in slab places (slots_of entries)) at) entry_is
      ∙ goes_in (entries_in slab places (slots_of entries)) (table_in slab places entries) are.slots.sorted refl (key_of places row) row at gap

  pub order_entered : e.lead ≡ lead_of (key_of places row) → AreOrdered slab places (insert entries at e)
  order_entered leads = record {
    slots = subst (AreSlots slab places) (sym slots_now) (record {
      live = λ i s is. elim (inserted (slots_of entries) at e.slot i s is) [
        | inl w ↦ ap (λ t. is_some (get slab t)) (sym w) ∙ ap is_some there
        | inr w ↦ are.slots.live w.0 s w.1
      ];
      sorted = now_sorted (entries_in slab places (slots_of entries)) (table_in slab places entries) are.slots.sorted refl (key_of places row) row (entries_in slab places (insert (slots_of entries) at e.slot)) rows_now;
    });
    led = λ i x is. elim (inserted entries at e i x is) [
      | inl w ↦ subst (λ y. y.lead ≡ lead_of (key_of places (row_in slab y.slot))) w (leads ∙ ap (λ o. lead_of (key_of places (unwrap_or o []))) (sym there))
      | inr w ↦ are.led w.0 x w.1
    ];
  }

  pub table_entered : table_in slab places (insert entries at e) ≡ fm.insert (table_in slab places entries) (key_of places row) row
  table_entered =
      ap (λ slots. fm.from_sorted (entries_in slab places slots)) slots_now
      ∙ now_has (entries_in slab places (slots_of entries)) (table_in slab places entries) are.slots.sorted refl (key_of places row) row (entries_in slab places (insert (slots_of entries) at e.slot)) rows_now

-- a row less
module _ (old new : Slab Row) (slot : ℕ) (places : List ℕ) (entries : List Entry) (i : ℕ) (u : Updates old new slot None) (are : AreOrdered old places entries) (at : slice_get (slots_of entries) i ≡ Some slot) where
  pub slots_left : slots_of (remove entries i) ≡ remove (slots_of entries) i
  slots_left = map_remove slot_in entries i

  pub left_order : AreOrdered new places (remove entries i)
  left_order = record {
    slots = subst (AreSlots new places) (sym slots_left) (left_slots old new slot u places (slots_of entries) are.slots i at);
    led = λ j x is. let k = kept_of entries i j x is in
        are.led k.0 x k.1 ∙ ap (λ o. lead_of (key_of places (unwrap_or o []))) (sym (u.others x.slot (other j x is)));
  }
    where
      other : (j : ℕ) (x : Entry) → slice_get (remove entries i) j ≡ Some x → x.slot ≢ slot
      other j x is = others_differ old places (slots_of entries) are.slots.sorted i slot at j x.slot (sym (ap (λ l. slice_get l j) slots_left) ∙ slice_get_map slot_in (remove entries i) j x is)

  pub left_rows : (key : Row) → IsKeyAt (fm.entries (table_in old places entries)) key i → table_in new places (remove entries i) ≡ fm.remove (table_in old places entries) key
  left_rows key found =
      ap (λ slots. fm.from_sorted (entries_in new places slots)) slots_left
      ∙ ap fm.from_sorted (entries_left old new slot u places (slots_of entries) are.slots i at)
      ∙ removed (entries_in old places (slots_of entries)) (table_in old places entries) are.slots.sorted refl key i found
