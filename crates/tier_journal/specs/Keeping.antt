-- The tier's journal over the slots of a disk. (This project's rule.)

use Rattle.std.specs.Prelude.{◌≡◌, ℕ, ◌+◌, ◌-◌, true, List, ◌++◌, length}
use Rattle.std.specs.List.{AllByRecursion}
use Rattle.table_defs.specs.declared.definition.TableDef.{TableDef}
use Rattle.outside.specs.declared.disk.Slot.{Slot}
use Rattle.outside.specs.Holding.{Slots, Held}
use Rattle.outside.specs.Calls.{Certain}
use Rattle.outside.specs.Sites.{SiteState}
use Rattle.journal_entries.specs.declared.standing.Standing.{Standing}
use Rattle.commit_journal.specs.Resting.{AtRest, HasRoom, IsPastLimit}
use Rattle.commit_journal.specs.Turning.{IsPastRenewal}
use Rattle.cache_tier.specs.Journals.{Journal, JournalEntry}
use Rattle.tier_journal.specs.declared.batch.Batch.{Batch}
use Rattle.tier_journal.specs.declared.journal.TierJournal.{TierJournal}
use Rattle.tier_journal.specs.Batches.{batch_size}
use Rattle.tier_journal.specs.Writing.{HasTables, written_all}

-- The journal keeps this one of the abstract tier over the slots: at rest, with its flushed entries and its tail as
-- they are written under the schema's names, in a slot of its length and generation.
pub record Keeps (schema : List TableDef) (t : TierJournal) (slots : Slots) (j : Journal) : Type 0 where
  pub kept : j.kept ≡ true
  pub rests : AtRest t.journal slots (written_all schema j.flushed) (written_all schema j.tail)
  pub written : j.written ≡ t.journal.gate + 1
  pub generation : j.generation ≡ t.journal.generation
  pub tables : AllByRecursion (HasTables schema) (j.flushed ++ j.tail)

-- it does so over a certain disk, beside which nothing changed
pub record KeepsOn {D : Type 0} (state : D → SiteState) (possible : D → ℕ → Held → Type 0) (d : D)
    (schema : List TableDef) (t : TierJournal) (o : Held) (j : Journal) : Type 0 where
  pub now : Held
  pub certain : Certain state possible d now
  pub beside : now.history ≡ o.history
  pub keeps : Keeps schema t now.slots j

-- ---- what answers depend on

-- the bytes of the entries that aren't flushed
abbrev pub tail_size : TierJournal → ℕ
tail_size t = length t.journal.staged.items - 4

-- the length of the live slot, up to its closed gate
abbrev pub slot_size : TierJournal → ℕ
slot_size t = t.journal.gate + 1

-- the slot that counts
abbrev pub slot_in : TierJournal → Slot
slot_in t = t.journal.slot

abbrev pub generation_in : TierJournal → ℕ
generation_in t = t.journal.generation

-- the version of the live slot
abbrev pub version_in : TierJournal → ℕ
version_in t = t.journal.version

-- what may stand behind the last entry
abbrev pub standing_in : TierJournal → Standing
standing_in t = t.journal.standing

-- the batch's entries stand behind the journal's
abbrev pub IsBehind : TierJournal → Batch → Type 0
IsBehind t b = b.begins ≡ standing_in t

-- the tail takes the batch: memory was taken for it, and the limits hold
abbrev pub HasRoomFor : TierJournal → Batch → Type 0
HasRoomFor t b = HasRoom t.journal (batch_size b)

-- with the batch the body would pass 2^24 bytes, or the slot 2^30
abbrev pub IsTooMuch : TierJournal → Batch → Type 0
IsTooMuch t b = IsPastLimit t.journal (batch_size b)

-- the batch is too long for a slot's first, or no generation is left
abbrev pub IsPastSlot : TierJournal → Batch → Type 0
IsPastSlot t b = IsPastRenewal t.journal (batch_size b)

-- the journal with these entries in its tail
abbrev pub with_tail : List JournalEntry → Journal → Journal
with_tail entries j = record j { tail = j.tail ++ entries }

-- only room came
pub record HasSame (old new : TierJournal) : Type 0 where
  pub tail : tail_size new ≡ tail_size old
  pub slot : slot_size new ≡ slot_size old
  pub generation : generation_in new ≡ generation_in old
  pub version : version_in new ≡ version_in old
  pub standing : standing_in new ≡ standing_in old
