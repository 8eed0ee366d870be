-- What a run leaves at its site for the next one. (TimesTen Cache User's Guide, "Recovery"; the journal is this
-- project's.)

use Rattle.std.specs.Prelude.{◌≡◌, ◌⊎◌, ℕ, false, List, [], ◌∷◌, ◌++◌, Option, Some, slice_get}
use Rattle.std.specs.List.{AllByRecursion}
use Rattle.table_defs.specs.declared.definition.TableDef.{TableDef}
use Rattle.table_state.specs.Histories.{state_of}
use Rattle.table_state.specs.Tables.{TableState}
use Rattle.outside.specs.Holding.{Held}
use Rattle.sql_subset.specs.Lines.{Spells}
use Rattle.sql_subset.specs.declared.stmt.Stmt.TheVariants as statement
use Rattle.sql_print.specs.Normal.{normal_group}
use Rattle.cache_tier.specs.declared.reply.Reply.{Reply}
use Rattle.cache_tier.specs.Journals.{Commits, Defines, Drops, JournalEntry, Marks, Numbers, Prepares, SetsLoaded, SetsState}
use Rattle.cache_tier.specs.Worlds.{World}
use Rattle.line_laws.specs.Keeping.{is_broken}
use Rattle.run_laws.specs.Lines.{MayGoOn}
use Rattle.tier_journal.specs.declared.journal.TierJournal.{TierJournal}
use Rattle.tier_journal.specs.Keeping.{Keeps}
use Rattle.tier_opening.specs.Opening.{Say}
use Rattle.cache_engine.specs.Requests.{Given, LineRun}

-- An entry of the journal, and the one that a slot says of it: a definition may come back in its normal form, as its
-- text reads.
abbrev pub ReadsBack : JournalEntry → JournalEntry → Type 0
ReadsBack (Defines d text) e = (e ≡ Defines d text) ⊎ (e ≡ Defines (normal_group d) text)
ReadsBack (Commits s) e = e ≡ Commits s
ReadsBack (Prepares s) e = e ≡ Prepares s
ReadsBack (Numbers ticket) e = e ≡ Numbers ticket
ReadsBack (Marks next) e = e ≡ Marks next
ReadsBack (Drops name) e = e ≡ Drops name
ReadsBack (SetsState name state) e = e ≡ SetsState name state
ReadsBack (SetsLoaded name flag) e = e ≡ SetsLoaded name flag

-- one after the other
abbrev pub ReadBack : List JournalEntry → List JournalEntry → Type 0
ReadBack [] [] = Unit {0}
ReadBack [] (e ∷ said) = ⊥
ReadBack (e ∷ entries) [] = ⊥
ReadBack (e ∷ entries) (f ∷ said) = ReadsBack e f × ReadBack entries said

-- The site holds the world's history, and whatever entries its slots say over the schema of that history, they are
-- those that the world's journal has flushed.
pub record IsLeftAt (o : Held) (w : World) : Type 0 where
  pub history : o.history ≡ w.history
  pub says : (s : TableState) (said : List JournalEntry) → state_of w.history ≡ Some s → Say s.schema o.slots said
      → ReadBack w.journal.flushed said

-- no two tables have one name
abbrev pub HaveOwnTableNames : List TableDef → Type 0
HaveOwnTableNames schema =
    (i j : ℕ) (a b : TableDef) → slice_get schema i ≡ Some a → slice_get schema j ≡ Some b → a.name ≡ b.name → i ≡ j

-- a definition's text reads as the definition, or as its normal form
abbrev pub HasText : JournalEntry → Type 0
HasText (Defines d text) =
    Spells text (statement.CreateGroup d) ⊎ Spells text (statement.CreateGroup (normal_group d))
HasText (Commits s) = Unit {0}
HasText (Prepares s) = Unit {0}
HasText (Numbers ticket) = Unit {0}
HasText (Marks next) = Unit {0}
HasText (Drops name) = Unit {0}
HasText (SetsState name state) = Unit {0}
HasText (SetsLoaded name flag) = Unit {0}

-- The site holds the world's history, and the world's journal is kept in its slots. The tier's schema is a front of the
-- bank's, in which no two tables have one name, and the text of each definition reads.
pub record IsKeptAt (o : Held) (w : World) : Type 0 where
  pub history : o.history ≡ w.history
  pub journal : TierJournal
  pub keeps : Keeps w.tier.schema journal o.slots w.journal
  pub texts : AllByRecursion HasText w.journal.flushed
  pub front : (s : TableState) → state_of w.history ≡ Some s
      → (more : List TableDef) × (s.schema ≡ w.tier.schema ++ more)
  pub named : (s : TableState) → state_of w.history ≡ Some s → HaveOwnTableNames s.schema

-- Behind each line of the run another one may come, and its reply tells no failed call of the journal's disk.
abbrev pub GoesOnThrough : (w : World) (lines : List Given) (replies : List (Option Reply)) (w' : World)
    → LineRun w lines replies w' → Type 0
GoesOnThrough w [] [] w' run = Unit {0}
GoesOnThrough w [] (reply ∷ replies) w' run = ⊥
GoesOnThrough w (g ∷ lines) [] w' run = ⊥
GoesOnThrough w (g ∷ lines) (reply ∷ replies) w' run =
    MayGoOn run.0 × (is_broken reply ≡ false) × GoesOnThrough run.0 lines replies w' run.2
