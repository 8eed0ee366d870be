-- What a new slot of the journal begins with, where nothing is unsettled. (This project's rule.)

use Rattle.std.specs.Prelude.{◌≡◌, ℕ, true, List, ◌∷◌, ◌++◌, map}
use Rattle.std.specs.List.{filter}
use Rattle.table_defs.specs.declared.definition.TableDef.{TableDef}
use Rattle.cache_tier.specs.Groups.{Group, is_read_only}
use Rattle.cache_tier.specs.Journals.{JournalEntry, Marks, SetsLoaded, SetsState}
use Rattle.cache_tier.specs.Rotations.{definition_entry}
use Rattle.tier_journal.specs.declared.batch.Batch.{Batch}
use Rattle.tier_journal.specs.Batches.{Holds}

-- the STATE of a group, and that it is loaded
abbrev pub state_entry : Group → JournalEntry
state_entry g = SetsState g.def.name g.state

abbrev pub flag_entry : Group → JournalEntry
flag_entry g = SetsLoaded g.def.name true

-- of these groups the definitions, the STATEs of READONLY ones, and the flags that are set
abbrev pub definition_entries : List Group → List JournalEntry
definition_entries groups = map definition_entry groups

abbrev pub state_entries : List Group → List JournalEntry
state_entries groups = map state_entry (filter is_read_only groups)

abbrev pub flag_entries : List Group → List JournalEntry
flag_entries groups = map flag_entry (filter (λ g. g.loaded) groups)

-- the next ticket, and then these
abbrev pub begun_entries : ℕ → List Group → List JournalEntry
begun_entries next groups = Marks next ∷ (definition_entries groups ++ (state_entries groups ++ flag_entries groups))

-- these entries came behind those of the batch
pub record AddsAll (entries : List JournalEntry) (old new : Batch) : Type 0 where
  pub begins : new.begins ≡ old.begins
  pub holds : (schema : List TableDef) (before : List JournalEntry) → Holds 2 schema old before
      → Holds 2 schema new (before ++ entries)
