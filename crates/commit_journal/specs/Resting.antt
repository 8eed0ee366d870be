-- A journal at rest over its slots.

use Rattle.std.specs.Prelude.{◌≡◌, ◌≢◌, ℕ, ◌+◌, ◌^◌, ◌<◌, ◌≤◌, ◌⊎◌, ◌==◌, List, ◌∷◌, ◌++◌, length, drop, vec_capacity, if◌then◌else◌}
use Rattle.std.specs.List.{AllByRecursion, flat_map}
use Rattle.outside.specs.Holding.{Slots, Held, slot_of, other}
use Rattle.outside.specs.Calls.{Certain}
use Rattle.outside.specs.Sites.{SiteState}
use Rattle.journal_entries.specs.declared.entry.Entry.{Entry}
use Rattle.journal_entries.specs.declared.standing.Standing.{Standing}
use Rattle.journal_entries.specs.declared.standing.Ending.TheVariants.{Whole}
use Rattle.journal_entries.specs.Spelling.{entry_bytes, IsEntry}
use Rattle.journal_entries.specs.Bodies.{AllFollow, Body, beginning, behind_all}
use Rattle.commit_journal.specs.declared.head.Head.TheVariants.{Dead, Live}
use Rattle.commit_journal.specs.declared.journal.Journal.{Journal}
use Rattle.commit_journal.specs.Layout.{Placed, entries_of, head_of, Outcome, Batches, Gives, HaveBytes}

-- These bytes are a slot up to a gate: whatever batches follow, behind their entries come those.
pub record IsFront (version generation : ℕ) (front : List ℕ) (placed : List Placed) (s : Standing) : Type 0 where
  pub head : (rest : List ℕ) → 1 ≤ length rest → head_of (front ++ rest) ≡ Live version generation
  pub onward : (rest : List ℕ) (more : List Placed) (outcome : Outcome)
      → Batches version s (length front) rest more outcome
      → Batches version beginning 10 (drop 10 (front ++ rest)) (placed ++ more) outcome

-- These bytes are the entries of a body that begins at this place, or its front: whatever entries follow.
pub record IsBodyFront (version : ℕ) (s : Standing) (place : ℕ) (bytes : List ℕ) (placed : List Placed) (t : Standing)
    : Type 0 where
  pub whole : Body version s place bytes placed (Whole t)

-- The slot is whole batches and a closed gate, whatever stands behind it; the other slot isn't live. The journal
-- knows the place of the gate, and has the tail.
pub record AtRest (j : Journal) (slots : Slots) (flushed tail : List Entry) : Type 0 where
  pub front : List ℕ
  pub gate : ℕ
  pub junk : List ℕ
  pub placed : List Placed
  pub before : Standing
  pub tail_placed : List Placed
  pub bytes : slot_of j.slot slots ≡ front ++ gate ∷ junk
  pub shut : gate ≢ 1
  pub place : j.gate ≡ length front
  pub is_front : IsFront j.version j.generation front placed before
  pub flushed_are : entries_of placed ≡ flushed
  pub other_dead : head_of (slot_of (other j.slot) slots) ≡ Dead
  pub other_some : 1 ≤ length (slot_of (other j.slot) slots)
  pub staged : drop 4 j.staged.items ≡ flat_map entry_bytes tail
  pub small : length (flat_map entry_bytes tail) ≤ 2 ^ 24
  pub tail_reads : Body j.version before (j.gate + 5) (flat_map entry_bytes tail) tail_placed (Whole j.standing)
  pub tail_are : entries_of tail_placed ≡ tail

-- the tail takes so many bytes more: there is memory, the batch is at most 2^24 bytes, and the slot at most 2^30
pub record HasRoom (j : Journal) (bytes : ℕ) : Type 0 where
  pub memory : length j.staged.items + bytes < vec_capacity j.staged
  pub batch : length j.staged.items + bytes ≤ 2 ^ 24 + 4
  pub slot : j.gate + (length j.staged.items + bytes) + 2 ≤ 2 ^ 30

-- so many bytes more are too many: the batch's body would pass 2^24 bytes, or the slot 2^30
abbrev pub IsPastLimit : Journal → ℕ → Type 0
IsPastLimit j bytes =
    (2 ^ 24 + 4 < length j.staged.items + bytes) ⊎ (2 ^ 30 < j.gate + (length j.staged.items + bytes) + 2)

-- the live slot, its version, its generation and the place of its gate stay
pub record IsSameSlot (old new : Journal) : Type 0 where
  pub slot : new.slot ≡ old.slot
  pub version : new.version ≡ old.version
  pub generation : new.generation ≡ old.generation
  pub gate : new.gate ≡ old.gate

-- The bytes spell the entries, each of which has bytes in this version and may stand behind those before it. The first
-- stands where one standing is, and behind the last is the other.
pub record Spells (version : ℕ) (s : Standing) (bytes : List ℕ) (t : Standing) (entries : List Entry) : Type 0 where
  pub are : bytes ≡ flat_map entry_bytes entries
  pub each : AllByRecursion (IsEntry version) entries
  pub order : AllFollow s entries
  pub behind : t ≡ behind_all s entries

-- where the gate stands once the tail is flushed: where it stood, if the tail is empty; else behind a length, the body
-- and a gate
abbrev pub gate_behind : Journal → ℕ
gate_behind j = if length j.staged.items == 4 then j.gate else j.gate + length j.staged.items + 1

-- the tail was flushed: the gate moved on in the same slot
pub record HasFlushed (old new : Journal) : Type 0 where
  pub slot : new.slot ≡ old.slot
  pub version : new.version ≡ old.version
  pub generation : new.generation ≡ old.generation
  pub gate : new.gate ≡ gate_behind old

-- only room came
pub record HasSameEntries (old new : Journal) : Type 0 where
  pub slot : IsSameSlot old new
  pub standing : new.standing ≡ old.standing
  pub staged : new.staged.items ≡ old.staged.items

-- what a crash in a flush leaves: the flushed entries, or these and the whole tail; the rest stays, and no slot is
-- without bytes
pub record MidFlush (o : Held) (flushed tail : List Entry) (p : Held) : Type 0 where
  pub beside : p.history ≡ o.history
  pub bytes : HaveBytes p.slots
  pub gives : Gives p.slots flushed ⊎ Gives p.slots (flushed ++ tail)

-- a journal at rest over a certain disk
pub record Rested {D : Type 0} (state : D → SiteState) (possible : D → ℕ → Held → Type 0) (d : D) (j : Journal)
    (o : Held) (entries tail : List Entry) : Type 0 where
  pub now : Held
  pub certain : Certain state possible d now
  pub beside : now.history ≡ o.history
  pub rest : AtRest j now.slots entries tail
