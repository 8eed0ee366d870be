-- What reading an entry in the tier's words finds, or that there is none.

use Rattle.std.specs.Prelude.{◌≡◌, ℕ, Option, Some, None, List}
use Rattle.std.specs.List.{AllByRecursion}
use Rattle.tier_base.specs.declared.number.TableId.{TableId}
use Rattle.table_defs.specs.declared.definition.TableDef.{TableDef}
use Rattle.table_state.specs.declared.operation.Op.{Op}
use Rattle.table_state.specs.declared.operation.Op.TheVariants.{Insert, Update, Delete}
use Rattle.sql_subset.specs.Lines as lines
use Rattle.sql_subset.specs.declared.stmt.CreateGroup as groups
use Rattle.sql_subset.specs.declared.stmt.RefreshState.{RefreshState}
use Rattle.sql_subset.specs.declared.stmt.RefreshState.TheVariants as refresh
use Rattle.sql_subset.specs.declared.stmt.Stmt.TheVariants as statements
use Rattle.journal_entries.specs.declared.entry.Entry.{Entry}
use Rattle.journal_entries.specs.declared.entry.GroupState.{GroupState}
use Rattle.journal_entries.specs.declared.entry.GroupState.TheVariants as state
use Rattle.journal_entries.specs.declared.entry.Op as by_name
use Rattle.journal_entries.specs.declared.entry.Op.TheVariants as named
use Rattle.commit_journal.specs.Layout.{Placed}
use Rattle.tier_journal.specs.declared.reading.Told.{Told}
use Rattle.tier_journal.specs.declared.record.Record.{Record}
use Rattle.tier_journal.specs.Opening.{IsFirstUnfit, StandForAll, StandsFor, StandsForNone, meaning, meanings, places_of}
use Rattle.tier_journal.specs.Writing.{IsOfSchema, written_op, written_ops}

-- the name of the operation's table
abbrev pub name_in_op : by_name.Op → List ℕ
name_in_op (named.Insert name row) = name
name_in_op (named.Update name old new) = name
name_in_op (named.Delete name row) = name

-- the operation on the table of this number
abbrev pub on_table : TableId → by_name.Op → Op
on_table t (named.Insert name row) = Insert t row
on_table t (named.Update name old new) = Update t old new
on_table t (named.Delete name row) = Delete t row

-- the operation that is written so, if there is one
abbrev pub IsReadOp : List TableDef → by_name.Op → Option Op → Type 0
IsReadOp schema e None = (op : Op) → IsOfSchema schema op → written_op schema op ≡ e → ⊥
IsReadOp schema e (Some op) = IsOfSchema schema op × (written_op schema op ≡ e)

abbrev pub IsReadOps : List TableDef → List by_name.Op → Option (List Op) → Type 0
IsReadOps schema es None = (ops : List Op) → AllByRecursion (IsOfSchema schema) ops → written_ops schema ops ≡ es → ⊥
IsReadOps schema es (Some ops) = AllByRecursion (IsOfSchema schema) ops × (written_ops schema ops ≡ es)

abbrev pub read_state : GroupState → RefreshState
read_state state.Off = refresh.Off
read_state state.Paused = refresh.Paused
read_state state.On = refresh.On

-- the definition that a text spells
abbrev pub IsReadText : List ℕ → Option groups.CreateGroup → Type 0
IsReadText text None = (d : groups.CreateGroup) → lines.Spells text (statements.CreateGroup d) → ⊥
IsReadText text (Some d) = lines.Spells text (statements.CreateGroup d)

abbrev pub IsRead : List TableDef → Entry → Option Record → Type 0
IsRead schema e None = StandsForNone schema e
IsRead schema e (Some r) = StandsFor schema (meaning r) e

-- all of the entries in the tier's words, each at its place, or the place of the first that stands for none
abbrev pub IsToldBy : List TableDef → List Placed → List (ℕ × Record) → Option ℕ → Type 0
IsToldBy schema placed records None =
    StandForAll schema (meanings records) placed × (places_of records ≡ places_of placed)
IsToldBy schema placed records (Some place) = IsFirstUnfit schema placed place

abbrev pub IsTold : List TableDef → List Placed → Told → Type 0
IsTold schema placed told = IsToldBy schema placed told.records.items told.unfit
