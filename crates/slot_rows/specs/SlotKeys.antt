-- The slots of a table's rows, by which the rows are known where no key is copied (this project's rule).
use Rattle.std.specs.Prelude.{◌≡◌, ℕ, List, Option, Some, None, true, false, map, refl}
use Rattle.std.specs.Coded.{Coded, code_by, coded×, coded_list, coded_ℕ}
use Rattle.std.specs.Ordering.{nat_cmp}
use Rattle.std.specs.FinMap as fm
use Rattle.slab.specs.Slab.{Slab}
use Rattle.indexed_rows.specs.row_types.specs.declared.value.Value.{Value}
use Rattle.indexed_rows.specs.row_types.specs.contracts.value.Value as one
use Rattle.indexed_rows.specs.Places.{IsKeyAt}
use Rattle.indexed_rows.specs.Rows.{Table, key_of}
use Rattle.slot_rows.specs.Slots.{row_in, slots_of}
use Rattle.slot_rows.specs.declared.order.Entry.{Entry}

-- the key of the row in each slot
abbrev pub SlotKeys : Type 0
SlotKeys = fm.FinMap nat_cmp (List Value)

abbrev pub slot_entries : Slab (List Value) → List ℕ → List ℕ → List (ℕ × List Value)
slot_entries slab places slots = map (λ s. (s, key_of places (row_in slab s))) slots

abbrev pub slot_keys_in : Slab (List Value) → List ℕ → List Entry → SlotKeys
slot_keys_in slab places entries = fm.from_entries (slot_entries slab places (slots_of entries))

-- what clauses see: the rows by key, the columns of the key, those of each other order, the key of the row in each
-- slot, the slot that the next row gets, and how many more rows go in without memory
pub record RowsHeld : Type 0 where
  pub table : Table
  pub places : List ℕ
  pub orders : List (List ℕ)
  pub slots : SlotKeys
  pub vacant : ℕ
  pub spare : ℕ

abbrev pub held_row_code : Coded (List Value)
held_row_code = coded_list one.the_row.coded

abbrev pub rows_held_code : Coded RowsHeld
rows_held_code =
    code_by (Table × (List ℕ × (List (List ℕ) × (SlotKeys × (ℕ × ℕ)))))
    (coded× (fm.code held_row_code held_row_code) (coded× (coded_list coded_ℕ)
    (coded× (coded_list (coded_list coded_ℕ)) (coded× (fm.code coded_ℕ held_row_code) (coded× coded_ℕ coded_ℕ)))))
    (λ h. (h.table, (h.places, (h.orders, (h.slots, (h.vacant, h.spare))))))
    (λ p. record {
      table = p.0;
      places = p.1.0;
      orders = p.1.1.0;
      slots = p.1.1.1.0;
      vacant = p.1.1.1.1.0;
      spare = p.1.1.1.1.1;
    }) (λ _. refl)

-- no other slot has the key
abbrev pub IsOnlySlot : RowsHeld → List Value → Option ℕ → Type 0
IsOnlySlot held key slot = (other : ℕ) → fm.get held.slots other ≡ Some key → slot ≡ Some other

-- the slot of the key's row, where the key has one
abbrev pub IsSlotOf : RowsHeld → List Value → Option ℕ → Type 0
IsSlotOf held key None = (fm.contains_key held.table key ≡ false) × IsOnlySlot held key None
IsSlotOf held key (Some slot) =
    (fm.contains_key held.table key ≡ true) × (fm.get held.slots slot ≡ Some key) × IsOnlySlot held key (Some slot)

-- the place in key order of the key's row, where the key has one
abbrev pub IsPlaceOf : RowsHeld → List Value → Option ℕ → Type 0
IsPlaceOf held key None = (fm.contains_key held.table key ≡ false) × IsOnlySlot held key None
IsPlaceOf held key (Some place) = IsKeyAt (fm.entries held.table) key place

-- a row of the key went into a slot that had none; or its key has a row already, and nothing did
abbrev pub PutsInSlot : RowsHeld → RowsHeld → List Value → Option ℕ → Type 0
PutsInSlot old new key None = (fm.contains_key old.table key ≡ true) × (new.slots ≡ old.slots)
PutsInSlot old new key (Some slot) =
    (fm.contains_key old.table key ≡ false) × (fm.get old.slots slot ≡ None) ×
    (new.slots ≡ fm.insert old.slots slot key) × (slot ≡ old.vacant)

-- the key's row left its slot, where the key had one, and the next row gets that slot
abbrev pub LeavesSlot : RowsHeld → RowsHeld → List Value → Type 0
LeavesSlot old new key =
    (fm.contains_key old.table key ≡ false → new.slots ≡ old.slots) ×
    ((slot : ℕ) → fm.get old.slots slot ≡ Some key → (new.slots ≡ fm.remove old.slots slot) × (new.vacant ≡ slot))

-- the keys in slots are those that have rows, each in one slot
pub record HasSlotKeys (held : RowsHeld) : Type 0 where
  pub row : (slot : ℕ) (key : List Value) → fm.get held.slots slot ≡ Some key → fm.contains_key held.table key ≡ true
  pub slot : (key : List Value) → fm.contains_key held.table key ≡ true
      → (slot : ℕ) × (fm.get held.slots slot ≡ Some key)
  pub only : (key : List Value) (slot other : ℕ) → fm.get held.slots slot ≡ Some key
      → fm.get held.slots other ≡ Some key → slot ≡ other

-- each row stands under its values at these columns
abbrev pub IsKeyedBy : List ℕ → Table → Type 0
IsKeyedBy places table = (key row : List Value) → fm.get table key ≡ Some row → key_of places row ≡ key
