-- The rows of a table in slots, and orders of their slots (this project's rule).
use Rattle.std.specs.Prelude.{◌≡◌, ℕ, List, [], Option, Some, true, T, map, is_some, slice_get, unwrap_or, if◌then◌else◌, None}
use Rattle.std.specs.Option.{option_and_then}
use Rattle.std.specs.declared.cmp.Ordering.{Ordering}
use Rattle.std.specs.FinMap as fm
use Rattle.slab.specs.Slab.{Slab, get}
use Rattle.indexed_rows.specs.row_types.specs.declared.value.Value.{Value}
use Rattle.indexed_rows.specs.row_types.specs.Order.{key_order}
use Rattle.indexed_rows.specs.Rows.{Table, is_same, key_of}
use Rattle.slot_rows.specs.Leads.{lead_first, lead_of}
use Rattle.slot_rows.specs.declared.order.Entry.{Entry}

-- the row in a slot
abbrev pub row_in : Slab (List Value) → ℕ → List Value
row_in slab slot = unwrap_or (get slab slot) []

-- the key and the row of a slot
abbrev pub entry_in : Slab (List Value) → List ℕ → ℕ → List Value × List Value
entry_in slab places slot = (key_of places (row_in slab slot), row_in slab slot)

abbrev pub entries_in : Slab (List Value) → List ℕ → List ℕ → List (List Value × List Value)
entries_in slab places slots = map (entry_in slab places) slots

abbrev pub slots_of : List Entry → List ℕ
slots_of entries = map (λ e. e.slot) entries

-- the rows by the values at some columns, as an order of their slots has them
abbrev pub table_in : Slab (List Value) → List ℕ → List Entry → Table
table_in slab places entries = fm.from_sorted (entries_in slab places (slots_of entries))

-- each of the slots has a row, and their keys rise
pub record AreSlots (slab : Slab (List Value)) (places slots : List ℕ) : Type 0 where
  pub live : (i slot : ℕ) → slice_get slots i ≡ Some slot → is_some (get slab slot) ≡ true
  pub sorted : T (fm.is_sorted key_order (entries_in slab places slots))

-- each entry has the lead of its row's key
abbrev pub AreLed : Slab (List Value) → List ℕ → List Entry → Type 0
AreLed slab places entries =
    (i : ℕ) (entry : Entry) → slice_get entries i ≡ Some entry →
    entry.lead ≡ lead_of (key_of places (row_in slab entry.slot))

-- entries of slots that have rows, in the order of keys, each with its lead
pub record AreOrdered (slab : Slab (List Value)) (places : List ℕ) (entries : List Entry) : Type 0 where
  pub slots : AreSlots slab places (slots_of entries)
  pub led : AreLed slab places entries

-- how an entry stands to a key with a lead: leads decide where they differ
abbrev pub entry_order : Slab (List Value) → List ℕ → ℕ → List Value → Entry → Ordering
entry_order slab places lead key entry =
    lead_first entry.lead lead (key_order (key_of places (row_in slab entry.slot)) key)

-- the slot at a place, where its row has these values at these columns
abbrev pub slot_at_front : Slab (List Value) → List ℕ → List Value → Option ℕ → Option ℕ
slot_at_front slab columns values slot =
    option_and_then (λ s. if is_same (key_of columns (row_in slab s)) values then Some s else None) slot
