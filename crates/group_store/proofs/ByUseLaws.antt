-- Places in key order of the keys in the order of last use.
use Rattle.std.proofs.Common.{◌≡◌, ℕ, List, true, false, slice_get, nat_eq, Option, Some, None, refl, sym, ap, subst, ◌∙◌}
use Rattle.std.specs.Option.{option_map}
use Rattle.std.specs.FinMap as fm
use Rattle.slot_rows.specs.row_types.specs.declared.value.Value.{Value}
use Rattle.cache_store.specs.recency.specs.Rings.{next_key}
use Rattle.slot_rows.specs.indexed_rows.specs.Places.{IsKeyAt}
use Rattle.slot_rows.specs.indexed_rows.specs.Rows.{Table, is_same, key_of}
use Rattle.slot_rows.specs.indexed_rows.proofs.EntryLaws.{at_has, mapped_at, unmapped_at}
use Rattle.slot_rows.specs.indexed_rows.proofs.MapLaws.{slice_get_map}
use Rattle.slot_rows.specs.SlotKeys.{IsKeyedBy, IsPlaceOf, RowsHeld, SlotKeys}
use Rattle.group_store.specs.Recent.{AreRecent, StandsAt, key_in, keys_of}
use Rattle.group_store.proofs.RecentLaws.{in_slot, next_is, next_there, no_first, of_recent}

abbrev Row : Type 0
Row = List Value

-- the row at a place in key order is that of the key there
pub row_of_key : (m : Table) (k : Row) (i : ℕ) → IsKeyAt (fm.entries m) k i → (r : Row) × (slice_get (fm.values m) i ≡ Some r) × (fm.get m k ≡ Some r)
row_of_key m k i at =
    let e = unmapped_at (λ (e : Row × Row). e.0) (fm.entries m) i k at in
    let x = e.0 in (
      x.1,
      mapped_at (λ (e : Row × Row). e.1) (fm.entries m) i x e.1,
      ap (fm.get m) (sym e.2) ∙ at_has m i x e.1,
    )

pub always_row : (m : Table) (k : Row) (i : ℕ) → IsKeyAt (fm.entries m) k i → None ≡ slice_get (fm.values m) i → ⊥
always_row m k i at e = let r = row_of_key m k i at in let z : None ≡ Some r.0 = e ∙ r.1 in cc

pub key_of_row : (places : List ℕ) (m : Table) (k row : Row) (i : ℕ) → IsKeyedBy places m → IsKeyAt (fm.entries m) k i → Some row ≡ slice_get (fm.values m) i → (fm.get m k ≡ Some row) × (key_of places row ≡ k)
key_of_row places m k row i keyed at is =
    let r = row_of_key m k i at in
    let there : fm.get m k ≡ Some row = r.2 ∙ sym r.1 ∙ sym is in (there, keyed k row there)

pub row_there : (places : List ℕ) (m : Table) (row : Row) (i : ℕ) → IsKeyedBy places m → Some row ≡ slice_get (fm.values m) i → fm.get m (key_of places row) ≡ Some row
row_there places m row i keyed is =
    let e = unmapped_at (λ (e : Row × Row). e.1) (fm.entries m) i row (sym is) in
    let x = e.0 in
    let there : fm.get m x.0 ≡ Some row = at_has m i x e.1 ∙ ap Some e.2 in
    ap (fm.get m) (keyed x.0 row there) ∙ there

-- a key that has a row stands at its place
pub stands : (h : RowsHeld) (key : Row) (r : Option ℕ) → fm.contains_key h.table key ≡ true → IsPlaceOf h key r → StandsAt h.table (Some key) r
stands h key None has e = let z : true ≡ false = sym has ∙ e.0 in cc
stands h key (Some place) has e = e

module _ (slots : SlotKeys) (recent : List ℕ) (are : AreRecent slots recent) (table : Table) (r : Option ℕ) where
  pub first_stands : (slot : ℕ) → slice_get recent 0 ≡ Some slot → ((k : Row) → fm.get slots slot ≡ Some k → StandsAt table (Some k) r) → StandsAt table (slice_get (keys_of slots recent) 0) r
  first_stands slot at h =
      let k = of_recent slots recent are 0 slot at in
      subst (λ o. StandsAt table o r) (sym (slice_get_map (key_in slots) recent 0 slot at ∙ ap Some (in_slot slots slot k.0 k.1))) (h k.0 k.1)

  pub next_stands : (key : Row) (slot s : ℕ) → fm.get slots slot ≡ Some key → ((other : ℕ) → fm.get slots other ≡ Some key → Some slot ≡ Some other) → next_key nat_eq slot recent ≡ Some s
      → ((k : Row) → fm.get slots s ≡ Some k → StandsAt table (Some k) r) → StandsAt table (next_key is_same key (keys_of slots recent)) r
  next_stands key slot s e only next h =
      let i = next_there slots recent are slot s recent next in
      let k = of_recent slots recent are i.0 s i.1 in
      subst (λ o. StandsAt table o r) (sym (next_is slots recent are key slot e only ∙ ap (option_map (key_in slots)) next ∙ ap Some (in_slot slots s k.0 k.1))) (h k.0 k.1)

-- without a first key, and without a next one
pub none_first : (slots : SlotKeys) (recent : List ℕ) (are : AreRecent slots recent) (table : Table) → slice_get recent 0 ≡ None → StandsAt table (slice_get (keys_of slots recent) 0) None
none_first slots recent are table e = subst (λ o. StandsAt table o None) (sym (no_first slots recent are e)) refl

pub none_next : (slots : SlotKeys) (recent : List ℕ) (are : AreRecent slots recent) (table : Table) (key : Row) (slot : ℕ) → fm.get slots slot ≡ Some key → ((other : ℕ) → fm.get slots other ≡ Some key → Some slot ≡ Some other)
    → next_key nat_eq slot recent ≡ None → StandsAt table (next_key is_same key (keys_of slots recent)) None
none_next slots recent are table key slot e only none = subst (λ o. StandsAt table o None) (sym (next_is slots recent are key slot e only ∙ ap (option_map (key_in slots)) none)) refl
