-- What a site holds: two slots of bytes, and beside them the backing history.

use Rattle.std.specs.Prelude.{ℕ, List}
use Rattle.table_state.specs.declared.history.Entry.{Entry}
use Rattle.outside.specs.declared.disk.Slot.{Slot}
use Rattle.outside.specs.declared.disk.Slot.TheVariants.{First, Second}

-- the bytes of the slots
pub record Slots : Type 0 where
  pub first : List ℕ
  pub second : List ℕ

-- the slots, and what is kept beside them
pub record Held : Type 0 where
  pub slots : Slots
  pub history : List Entry

abbrev pub slot_of : Slot → Slots → List ℕ
slot_of First slots = slots.first
slot_of Second slots = slots.second

-- the slot beside this one
abbrev pub other : Slot → Slot
other First = Second
other Second = First

-- the slots with these bytes in one of them
abbrev pub with_slot : Slot → List ℕ → Slots → Slots
with_slot First bytes slots = record { first = bytes; second = slots.second }
with_slot Second bytes slots = record { first = slots.first; second = bytes }

abbrev pub with_bytes : Slot → List ℕ → Held → Held
with_bytes slot bytes old = record { slots = with_slot slot bytes old.slots; history = old.history }
