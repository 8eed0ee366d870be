-- Entries that are made ready for a journal. (This project's rule.)

use Rattle.std.specs.Prelude.{List, [], ◌∷◌, Bool, true, false, Option, Some, None}
use Rattle.table_defs.specs.declared.definition.TableDef.{TableDef}
use Rattle.outside.specs.Holding.{Slots}
use Rattle.cache_tier.specs.Journals.{Journal, JournalEntry}
use Rattle.tier_journal.specs.declared.batch.Batch.{Batch}
use Rattle.tier_journal.specs.declared.journal.TierJournal.{TierJournal}
use Rattle.tier_journal.specs.Batches.{Holds}
use Rattle.tier_journal.specs.Keeping.{HasRoomFor, HasSame, IsBehind, IsTooMuch, Keeps}
use Rattle.tier_journal.specs.declared.draft.Draft.{Draft}
use Rattle.tier_journal.specs.declared.draft.Draft.TheVariants.{Fits, Full, Unkept}

abbrev pub is_full_draft : Draft → Bool
is_full_draft Unkept = false
is_full_draft (Fits batch) = false
is_full_draft Full = true

-- the batch has the entry, and there is room for it behind the journal's
pub record FitsBehind (schema : List TableDef) (t : TierJournal) (b : Batch) (e : JournalEntry) : Type 0 where
  pub room : HasRoomFor t b
  pub place : IsBehind t b
  pub holds : Holds 2 schema b (e ∷ [])

-- the journal is full for the entry
pub record Overfills (schema : List TableDef) (t : TierJournal) (e : JournalEntry) : Type 0 where
  pub batch : Batch
  pub holds : Holds 2 schema batch (e ∷ [])
  pub much : IsTooMuch t batch

-- the entry was made ready so for a journal, or for none
abbrev pub IsDraftOf : List TableDef → Option TierJournal → Draft → JournalEntry → Type 0
IsDraftOf schema None Unkept e = Unit {0}
IsDraftOf schema None (Fits b) e = ⊥
IsDraftOf schema None Full e = ⊥
IsDraftOf schema (Some t) Unkept e = ⊥
IsDraftOf schema (Some t) (Fits b) e = FitsBehind schema t b e
IsDraftOf schema (Some t) Full e = Overfills schema t e

-- there is room for what was made ready
abbrev pub IsPlaced : Option TierJournal → Draft → Type 0
IsPlaced None Unkept = Unit {0}
IsPlaced None (Fits b) = ⊥
IsPlaced None Full = ⊥
IsPlaced (Some t) Unkept = ⊥
IsPlaced (Some t) (Fits b) = HasRoomFor t b × IsBehind t b
IsPlaced (Some t) Full = Unit {0}

-- a journal keeps what it kept
pub record HasKept (old new : TierJournal) : Type 0 where
  pub keeps : (schema : List TableDef) (slots : Slots) (j : Journal) → Keeps schema old slots j
      → Keeps schema new slots j
  pub same : HasSame old new

-- so it is where one is kept; and none stays none
abbrev pub StaysKept : Option TierJournal → Option TierJournal → Type 0
StaysKept None None = Unit {0}
StaysKept None (Some new) = ⊥
StaysKept (Some old) None = ⊥
StaysKept (Some old) (Some new) = HasKept old new

-- what is made of a batch behind the journal's entries, which has an entry
abbrev pub FillsIn : TierJournal → TierJournal → Batch → Draft → Type 0
FillsIn old new b draft =
    (schema : List TableDef) (e : JournalEntry) → IsBehind old b → Holds 2 schema b (e ∷ [])
    → IsDraftOf schema (Some new) draft e
