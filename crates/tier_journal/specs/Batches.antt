-- Entries on their way to the journal, as their bytes. (This project's rule.)

use Rattle.std.specs.Prelude.{◌≡◌, ℕ, true, List, [], ◌∷◌, ◌++◌, length}
use Rattle.std.specs.List.{AllByRecursion}
use Rattle.table_defs.specs.declared.definition.TableDef.{TableDef}
use Rattle.journal_entries.specs.declared.standing.Standing.{Standing}
use Rattle.journal_entries.specs.Bodies.{behind, follows}
use Rattle.journal_entries.specs.Spelling.{IsEntry}
use Rattle.commit_journal.specs.Resting.{Spells}
use Rattle.cache_tier.specs.Journals.{JournalEntry}
use Rattle.tier_journal.specs.declared.batch.Batch.{Batch}
use Rattle.tier_journal.specs.Writing.{HasTables, written, written_all}

-- The batch has the bytes of these entries, in this version, under the names of the schema.
pub record Holds (version : ℕ) (schema : List TableDef) (b : Batch) (entries : List JournalEntry) : Type 0 where
  pub spells : Spells version b.begins b.bytes.items b.standing (written_all schema entries)
  pub tables : AllByRecursion (HasTables schema) entries

-- no entry yet
pub record IsEmpty (b : Batch) (s : Standing) : Type 0 where
  pub begins : b.begins ≡ s
  pub standing : b.standing ≡ s
  pub bytes : b.bytes.items ≡ []

-- how many bytes its entries take
abbrev pub batch_size : Batch → ℕ
batch_size b = length b.bytes.items

-- The entry can be written behind those of the batch: its tables are of the schema, it has bytes, and its ticket is
-- greater than those before it. A mark is the first entry of a slot.
pub record CanFollow (schema : List TableDef) (b : Batch) (e : JournalEntry) : Type 0 where
  pub tables : HasTables schema e
  pub bytes : IsEntry 2 (written schema e)
  pub order : follows b.standing (written schema e) ≡ true

-- the entry stands behind those of the batch
pub record Adds (schema : List TableDef) (old new : Batch) (e : JournalEntry) : Type 0 where
  pub begins : new.begins ≡ old.begins
  pub standing : new.standing ≡ behind old.standing (written schema e)
  pub holds : (version : ℕ) (entries : List JournalEntry) → IsEntry version (written schema e)
      → Holds version schema old entries → Holds version schema new (entries ++ e ∷ [])
