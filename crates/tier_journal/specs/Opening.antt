-- What an opening finds, in the tier's words. (This project's rule.)

use Rattle.std.specs.Prelude.{◌≡◌, ◌⊎◌, ℕ, Bool, true, false, Option, Some, None, List, [], ◌∷◌, ◌++◌, map}
use Rattle.table_defs.specs.declared.definition.TableDef.{TableDef}
use Rattle.sql_subset.specs.Lines as lines
use Rattle.sql_subset.specs.declared.stmt.Stmt.TheVariants as statements
use Rattle.outside.specs.declared.disk.Slot.{Slot}
use Rattle.outside.specs.Holding.{Held, Slots}
use Rattle.outside.specs.Calls.{Certain}
use Rattle.outside.specs.Sites.{SiteState}
use Rattle.journal_entries.specs.declared.entry.Entry.{Entry}
use Rattle.commit_journal.specs.declared.journal.Journal as commit
use Rattle.commit_journal.specs.Layout.{Placed, Reads, entries_of}
use Rattle.commit_journal.specs.Resting.{AtRest}
use Rattle.cache_tier.specs.Journals.{Journal, JournalEntry, Commits, Prepares, Numbers, Marks, Defines, Drops, SetsState, SetsLoaded, new_journal}
use Rattle.tier_journal.specs.declared.opening.Found.{Found}
use Rattle.tier_journal.specs.declared.opening.Found.TheVariants.{Whole, Damaged}
use Rattle.tier_journal.specs.declared.record.Record.{Record}
use Rattle.tier_journal.specs.declared.record.Record.TheVariants as record_of
use Rattle.tier_journal.specs.declared.journal.TierJournal.{TierJournal}
use Rattle.tier_journal.specs.Keeping.{Keeps, generation_in, slot_size}
use Rattle.tier_journal.specs.Writing.{HasTables, written}

-- what the record says
abbrev pub meaning : Record → JournalEntry
meaning (record_of.Commit s) = Commits s
meaning (record_of.Prepare s) = Prepares s
meaning (record_of.Number t) = Numbers t.0
meaning (record_of.Mark t) = Marks t.0
meaning (record_of.Define d text) = Defines d text
meaning (record_of.Drop g) = Drops g
meaning (record_of.State g state) = SetsState g state
meaning (record_of.Loaded g flag) = SetsLoaded g flag

abbrev pub meanings : List (ℕ × Record) → List JournalEntry
meanings records = map (λ r. meaning r.1) records

-- it is a commit
abbrev pub is_commit : Record → Bool
is_commit (record_of.Commit s) = true
is_commit (record_of.Prepare s) = false
is_commit (record_of.Number t) = false
is_commit (record_of.Mark t) = false
is_commit (record_of.Define d text) = false
is_commit (record_of.Drop g) = false
is_commit (record_of.State g state) = false
is_commit (record_of.Loaded g flag) = false

-- it is the definition of a group
abbrev pub is_definition : Record → Bool
is_definition (record_of.Commit s) = false
is_definition (record_of.Prepare s) = false
is_definition (record_of.Number t) = false
is_definition (record_of.Mark t) = false
is_definition (record_of.Define d text) = true
is_definition (record_of.Drop g) = false
is_definition (record_of.State g state) = false
is_definition (record_of.Loaded g flag) = false

-- the places at which they begin
abbrev pub places_of : {X : Type 0} → List (ℕ × X) → List ℕ
places_of placed = map (λ p. p.0) placed

-- a definition's text spells it
abbrev pub IsSpelt : JournalEntry → Type 0
IsSpelt (Commits s) = Unit {0}
IsSpelt (Prepares s) = Unit {0}
IsSpelt (Numbers t) = Unit {0}
IsSpelt (Marks t) = Unit {0}
IsSpelt (Defines d text) = lines.Spells text (statements.CreateGroup d)
IsSpelt (Drops g) = Unit {0}
IsSpelt (SetsState g state) = Unit {0}
IsSpelt (SetsLoaded g flag) = Unit {0}

-- The entry stands in the journal for this one of the tier: it is written so, its tables are the schema's, and a
-- definition's text spells it.
pub record StandsFor (schema : List TableDef) (x : JournalEntry) (e : Entry) : Type 0 where
  pub is : written schema x ≡ e
  pub tables : HasTables schema x
  pub spelt : IsSpelt x

-- it stands for none under this schema
abbrev pub StandsForNone : List TableDef → Entry → Type 0
StandsForNone schema e = (x : JournalEntry) → StandsFor schema x e → ⊥

-- each of the entries stands for the tier's at its place
abbrev pub StandForAll : List TableDef → List JournalEntry → List Placed → Type 0
StandForAll schema [] [] = Unit {0}
StandForAll schema [] (p ∷ placed) = ⊥
StandForAll schema (x ∷ entries) [] = ⊥
StandForAll schema (x ∷ entries) (p ∷ placed) = StandsFor schema x p.1 × StandForAll schema entries placed

-- the first entry that stands for none has this place
pub record IsFirstUnfit (schema : List TableDef) (placed : List Placed) (place : ℕ) : Type 0 where
  pub before : List Placed
  pub entry : Entry
  pub behind : List Placed
  pub are : placed ≡ before ++ (place, entry) ∷ behind
  pub entries : List JournalEntry
  pub fit : StandForAll schema entries before
  pub unfit : StandsForNone schema entry

-- the slot whose entries count: that of the damage, or that of the journal at rest
abbrev pub Counts : Slots → List Placed → Option (Slot × ℕ) → Slot → Type 0
Counts now placed None slot = (j : commit.Journal) × AtRest j now (entries_of placed) [] × (j.slot ≡ slot)
Counts now placed (Some damage) slot = slot ≡ damage.0

-- The first damaged place: that of the first entry that stands for none, or the first that doesn't read where each
-- entry before it stands for one.
pub record IsDamagedAt (schema : List TableDef) (slots now : Slots) (slot : Slot) (place : ℕ) : Type 0 where
  pub placed : List Placed
  pub damaged : Option (Slot × ℕ)
  pub reads : Reads slots placed damaged
  pub there : (IsFirstUnfit schema placed place × Counts now placed damaged slot)
      ⊎ ((entries : List JournalEntry) × StandForAll schema entries placed × (damaged ≡ Some (slot, place)))

-- a journal of these entries alone
abbrev pub opened_journal : TierJournal → List JournalEntry → Journal
opened_journal t entries =
    record {
      kept = true;
      flushed = entries;
      tail = [];
      written = slot_size t;
      generation = generation_in t;
      way = None;
    }

-- Of the slots as they were and as they are now: each entry in the tier's words and where it begins, and the journal
-- with them; or the first damaged place.
abbrev pub ShowsFound : List TableDef → Slots → Slots → Found → Type 0
ShowsFound schema slots now (Whole t records) =
    (placed : List Placed) × Reads slots placed None × StandForAll schema (meanings records.items) placed
    × (places_of records.items ≡ places_of placed) × Keeps schema t now (opened_journal t (meanings records.items))
ShowsFound schema slots now (Damaged slot place) = IsDamagedAt schema slots now slot place

-- what was found, over a certain disk
pub record Finds {D : Type 0} (state : D → SiteState) (possible : D → ℕ → Held → Type 0) (d : D)
    (schema : List TableDef) (o : Held) (found : Found) : Type 0 where
  pub now : Held
  pub certain : Certain state possible d now
  pub beside : now.history ≡ o.history
  pub shows : ShowsFound schema o.slots now.slots found

-- what was found is over this journal
abbrev pub IsOfJournal : commit.Journal → Found → Type 0
IsOfJournal j (Whole t records) = t.journal ≡ j
IsOfJournal j (Damaged slot place) = Unit {0}

-- a new journal without entries
abbrev pub IsNewFound : Found → Type 0
IsNewFound (Whole t records) = (records.items ≡ []) × (opened_journal t [] ≡ new_journal)
IsNewFound (Damaged slot place) = ⊥
