-- What two slots of bytes say. (This project's rule.)
--
-- A slot: its gate, 1 where it is live; its version; eight bytes of generation; and batches from place 10 on. A
-- batch: an open gate, 1; four bytes of length; so many bytes of body. Another byte in a gate's place ends the
-- journal there.

use Rattle.std.specs.Prelude.{◌≡◌, ◌≢◌, ℕ, ◌+◌, ◌-◌, ◌^◌, ◌<◌, ◌≤◌, Option, Some, None, List, [], ◌∷◌, ◌++◌, length, take, drop, map, slice_index, nat_lt, ◌==◌, if◌then◌else◌}
use Rattle.std.specs.Int.{w32, w64, to_be_bytes, from_be_bytes}
use Rattle.outside.specs.declared.disk.Slot.{Slot}
use Rattle.outside.specs.declared.disk.Slot.TheVariants.{First, Second}
use Rattle.outside.specs.Holding.{Slots, slot_of, other}
use Rattle.journal_entries.specs.declared.entry.Entry.{Entry}
use Rattle.journal_entries.specs.declared.standing.Standing.{Standing}
use Rattle.journal_entries.specs.declared.standing.Ending.TheVariants.{Whole, Stops}
use Rattle.journal_entries.specs.Bodies.{Body, beginning}
use Rattle.commit_journal.specs.declared.head.Head.{Head}
use Rattle.commit_journal.specs.declared.head.Head.TheVariants.{Dead, Faulty, Live}

-- an entry with its first byte
abbrev pub Placed : Type 0
Placed = ℕ × Entry

-- ---- the head of a slot

abbrev pub generation_of : List ℕ → ℕ
generation_of bytes = from_be_bytes w64 (take 8 (drop 2 bytes))

-- In version 1 the generation 2^64 - 1 doesn't read.
abbrev pub live_head : List ℕ → Head
live_head bytes =
    if nat_lt (length bytes) 11 then Faulty 1
    else (if slice_index bytes 1 == 2 then Live 2 (generation_of bytes)
    else (if slice_index bytes 1 == 1
    then (if generation_of bytes == 2 ^ 64 - 1 then Faulty 2 else Live 1 (generation_of bytes))
    else Faulty 1))

unfoldable pub head_of : List ℕ → Head
head_of bytes = if slice_index bytes 0 == 1 then live_head bytes else Dead

-- ---- batches

-- a body's length, the body, and at least a gate behind
pub record IsBatch (rest body more : List ℕ) : Type 0 where
  pub is : rest ≡ to_be_bytes w32 (length body) ++ (body ++ more)
  pub size : length body ≤ 2 ^ 24
  pub gate : 1 ≤ length more

-- where the journal ends: at the place of a closed gate, or at the first byte that doesn't read
pub data Outcome : Type 0 where
  Closed : ℕ → Standing → Outcome
  Damaged : ℕ → Outcome

-- the batches of a slot from a gate on, and their entries
pub data Batches (version : ℕ) : Standing → ℕ → List ℕ → List Placed → Outcome → Type 0 where
  closed : {s : Standing} {place : ℕ} {bytes : List ℕ} (gate : ℕ) (junk : List ℕ) → bytes ≡ gate ∷ junk → gate ≢ 1
      → Batches version s place bytes [] (Closed place s)
  cut : {s : Standing} {place : ℕ} {bytes : List ℕ} (rest : List ℕ) → bytes ≡ 1 ∷ rest
      → ((body more : List ℕ) → IsBatch rest body more → ⊥) → Batches version s place bytes [] (Damaged (place + 1))
  broken : {s : Standing} {place : ℕ} {bytes : List ℕ} {entries : List Placed} (rest body more : List ℕ) (at : ℕ)
      → bytes ≡ 1 ∷ rest → IsBatch rest body more
      → Body version s (place + 5) body entries (Stops at) → Batches version s place bytes entries (Damaged at)
  opened : {s : Standing} {place : ℕ} {bytes : List ℕ} {outcome : Outcome} (rest body more : List ℕ) (t : Standing)
      (entries others : List Placed) → bytes ≡ 1 ∷ rest → IsBatch rest body more
      → Body version s (place + 5) body entries (Whole t)
      → Batches version t (place + 5 + length body) more others outcome
      → Batches version s place bytes (entries ++ others) outcome

-- ---- two slots

-- Of two live slots the greater generation counts, of equal ones slot 0.
abbrev pub Beats : Slot → ℕ → Head → Type 0
Beats slot generation Dead = Unit {0}
Beats slot generation (Faulty place) = ⊥
Beats First generation (Live version another) = another ≤ generation
Beats Second generation (Live version another) = another < generation

abbrev pub place_of : Slot → Outcome → Option (Slot × ℕ)
place_of slot (Closed place s) = None
place_of slot (Damaged place) = Some (slot, place)

-- slot 0's head is tested before slot 1's
abbrev pub IsFirstFault : Slot → Slots → Type 0
IsFirstFault First slots = Unit {0}
IsFirstFault Second slots = (place : ℕ) → head_of slots.first ≢ Faulty place

-- The entries, up to the closed gate or the first damaged place. Without a live slot the journal is new, and has none.
pub data Reads : Slots → List Placed → Option (Slot × ℕ) → Type 0 where
  new : {slots : Slots} → head_of slots.first ≡ Dead → head_of slots.second ≡ Dead → Reads slots [] None
  faulty : {slots : Slots} (slot : Slot) (place : ℕ) → head_of (slot_of slot slots) ≡ Faulty place
      → IsFirstFault slot slots → Reads slots [] (Some (slot, place))
  counts : {slots : Slots} {entries : List Placed} (slot : Slot) (version generation : ℕ) (outcome : Outcome)
      → head_of (slot_of slot slots) ≡ Live version generation
      → Beats slot generation (head_of (slot_of (other slot) slots))
      → Batches version beginning 10 (drop 10 (slot_of slot slots)) entries outcome
      → Reads slots entries (place_of slot outcome)

abbrev pub entries_of : List Placed → List Entry
entries_of placed = map (λ p. p.1) placed

-- no slot is without bytes
pub record HaveBytes (slots : Slots) : Type 0 where
  pub first : 1 ≤ length slots.first
  pub second : 1 ≤ length slots.second

-- the slots are undamaged, and have these entries
pub record Gives (slots : Slots) (entries : List Entry) : Type 0 where
  pub placed : List Placed
  pub reads : Reads slots placed None
  pub are : entries_of placed ≡ entries
