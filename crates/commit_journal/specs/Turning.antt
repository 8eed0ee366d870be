-- What moving on to the other slot leaves.

use Rattle.std.specs.Prelude.{◌≡◌, ◌≢◌, ℕ, ◌+◌, ◌-◌, ◌^◌, ◌<◌, ◌≤◌, ◌⊎◌, List, [], ◌∷◌, ◌++◌, length, slice_index}
use Rattle.std.specs.List.{flat_map}
use Rattle.std.specs.Int.{w32, w64, to_be_bytes}
use Rattle.outside.specs.declared.disk.Slot.{Slot}
use Rattle.outside.specs.Holding.{Held, slot_of, other}
use Rattle.outside.specs.Calls.{Certain}
use Rattle.outside.specs.Sites.{SiteState}
use Rattle.journal_entries.specs.declared.entry.Entry.{Entry}
use Rattle.journal_entries.specs.Spelling.{entry_bytes}
use Rattle.commit_journal.specs.declared.journal.Journal.{Journal}
use Rattle.commit_journal.specs.Layout.{Gives, HaveBytes}

-- while a slot is filled behind its first byte
pub record Filling (slot : Slot) (o p : Held) : Type 0 where
  pub beside : p.history ≡ o.history
  pub other_same : slot_of (other slot) p.slots ≡ slot_of (other slot) o.slots
  pub first_same : slice_index (slot_of slot p.slots) 0 ≡ slice_index (slot_of slot o.slots) 0
  pub some : 1 ≤ length (slot_of slot p.slots)

pub record Filled {D : Type 0} (state : D → SiteState) (possible : D → ℕ → Held → Type 0) (d : D) (slot : Slot)
    (bytes : List ℕ) (o : Held) : Type 0 where
  pub now : Held
  pub certain : Certain state possible d now
  pub beside : now.history ≡ o.history
  pub other_same : slot_of (other slot) now.slots ≡ slot_of (other slot) o.slots
  pub there : slot_of slot now.slots ≡ slice_index (slot_of slot o.slots) 0 ∷ bytes

-- the slot is as it was
abbrev pub IsAsBefore : Slot → Held → Held → Type 0
IsAsBefore slot o p = slot_of slot p.slots ≡ slot_of slot o.slots

-- it has a byte, and isn't live
pub record IsClosed (bytes : List ℕ) : Type 0 where
  pub some : 1 ≤ length bytes
  pub dead : slice_index bytes 0 ≢ 1

-- The new slot isn't live and the old one is as it was; or the new one is whole, and the old one as it was or not live.
pub record MidTurn (target : Slot) (bytes : List ℕ) (o p : Held) : Type 0 where
  pub beside : p.history ≡ o.history
  pub there : (IsClosed (slot_of target p.slots) × IsAsBefore (other target) o p)
      ⊎ ((slot_of target p.slots ≡ 1 ∷ bytes)
      × (IsAsBefore (other target) o p ⊎ IsClosed (slot_of (other target) p.slots)))

-- the slot is live with these bytes, and the other one is as it was
pub record HasBegun {D : Type 0} (state : D → SiteState) (possible : D → ℕ → Held → Type 0) (d : D) (slot : Slot)
    (bytes : List ℕ) (o : Held) : Type 0 where
  pub now : Held
  pub certain : Certain state possible d now
  pub beside : now.history ≡ o.history
  pub other_same : slot_of (other slot) now.slots ≡ slot_of (other slot) o.slots
  pub there : slot_of slot now.slots ≡ 1 ∷ bytes

pub record Turned {D : Type 0} (state : D → SiteState) (possible : D → ℕ → Held → Type 0) (d : D) (target : Slot)
    (bytes : List ℕ) (o : Held) : Type 0 where
  pub now : Held
  pub certain : Certain state possible d now
  pub beside : now.history ≡ o.history
  pub there : slot_of target now.slots ≡ 1 ∷ bytes
  pub old : (rest : List ℕ) × (slot_of (other target) now.slots ≡ 0 ∷ rest)

-- an open gate, the body's length, and the body
abbrev pub batch_of : List ℕ → List ℕ
batch_of body = 1 ∷ (to_be_bytes w32 (length body) ++ body)

-- a slot of version 2 behind its first byte: the generation, one batch, and a closed gate
abbrev pub slot_bytes : ℕ → List ℕ → List ℕ
slot_bytes generation body = 2 ∷ (to_be_bytes w64 generation ++ (batch_of body ++ 0 ∷ []))

-- the old entries count, or the new ones; and no slot is without bytes
pub record MidRotation (o : Held) (entries others : List Entry) (p : Held) : Type 0 where
  pub beside : p.history ≡ o.history
  pub bytes : HaveBytes p.slots
  pub gives : Gives p.slots entries ⊎ Gives p.slots others

-- the entries are too many for one batch, or no generation is left
abbrev pub IsPastRotation : Journal → List Entry → Type 0
IsPastRotation j entries = (j.generation ≡ 2 ^ 64 - 1) ⊎ (2 ^ 24 < length (flat_map entry_bytes entries))

-- so many bytes are too many for one batch, or no generation is left
abbrev pub IsPastRenewal : Journal → ℕ → Type 0
IsPastRenewal j bytes = (j.generation ≡ 2 ^ 64 - 1) ⊎ (2 ^ 24 < bytes)

-- the journal is in a new slot of version 2 with the next generation, behind one batch of so many bytes
pub record HasRenewed (old new : Journal) (bytes : ℕ) : Type 0 where
  pub version : new.version ≡ 2
  pub generation : new.generation ≡ old.generation + 1
  pub gate : new.gate ≡ 15 + bytes

-- the slot has a byte and isn't live
pub record CanBegin (slot : Slot) (o : Held) : Type 0 where
  pub some : 1 ≤ length (slot_of slot o.slots)
  pub dead : slice_index (slot_of slot o.slots) 0 ≢ 1

-- the target has a byte and isn't live, and the other slot is
pub record CanTurn (target : Slot) (o : Held) : Type 0 where
  pub some : 1 ≤ length (slot_of target o.slots)
  pub dead : slice_index (slot_of target o.slots) 0 ≢ 1
  pub live : slice_index (slot_of (other target) o.slots) 0 ≡ 1
