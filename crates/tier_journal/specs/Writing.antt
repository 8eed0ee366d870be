-- How the tier's entries are written in the journal. (This project's rule.)

use Rattle.std.specs.Prelude.{ℕ, ◌<◌, Option, Some, None, List, [], map, length, slice_get}
use Rattle.std.specs.List.{AllByRecursion}
use Rattle.tier_base.specs.declared.number.TableId.{TableId}
use Rattle.table_defs.specs.declared.definition.TableDef.{TableDef}
use Rattle.table_state.specs.declared.operation.Op.{Op}
use Rattle.table_state.specs.declared.operation.Op.TheVariants.{Insert, Update, Delete}
use Rattle.table_state.specs.Operations.{table_of}
use Rattle.sql_subset.specs.declared.stmt.RefreshState.{RefreshState}
use Rattle.sql_subset.specs.declared.stmt.RefreshState.TheVariants as refresh
use Rattle.journal_entries.specs.declared.entry.Entry.{Entry}
use Rattle.journal_entries.specs.declared.entry.Entry.TheVariants.{Commit, Prepare, Passed, Mark, Defined, Dropped, Turned, Loaded}
use Rattle.journal_entries.specs.declared.entry.GroupState.{GroupState}
use Rattle.journal_entries.specs.declared.entry.GroupState.TheVariants as state
use Rattle.journal_entries.specs.declared.entry.Op as by_name
use Rattle.journal_entries.specs.declared.entry.Op.TheVariants as named
use Rattle.journal_entries.specs.Spelling.{IsOp}
use Rattle.cache_tier.specs.Journals.{JournalEntry, Commits, Prepares, Numbers, Marks, Defines, Drops, SetsState, SetsLoaded}

-- the name that a definition gives its table, and none without a definition
abbrev pub name_of : Option TableDef → List ℕ
name_of None = []
name_of (Some def) = def.name

-- the name of a table in the schema
abbrev pub name_in : List TableDef → TableId → List ℕ
name_in schema t = name_of (slice_get schema t.0)

-- an operation by the name of its table
abbrev pub written_op : List TableDef → Op → by_name.Op
written_op schema (Insert t row) = named.Insert (name_in schema t) row
written_op schema (Update t old new) = named.Update (name_in schema t) old new
written_op schema (Delete t row) = named.Delete (name_in schema t) row

abbrev pub written_ops : List TableDef → List Op → List by_name.Op
written_ops schema ops = map (written_op schema) ops

abbrev pub written_state : RefreshState → GroupState
written_state refresh.Off = state.Off
written_state refresh.Paused = state.Paused
written_state refresh.On = state.On

-- An entry of the tier as the journal keeps it: tables by their names, a definition by its text.
abbrev pub written : List TableDef → JournalEntry → Entry
written schema (Commits s) = Commit s.ticket (written_ops schema s.ops)
written schema (Prepares s) = Prepare s.ticket (written_ops schema s.ops)
written schema (Numbers t) = Passed (record { 0 = t })
written schema (Marks t) = Mark (record { 0 = t })
written schema (Defines d text) = Defined text
written schema (Drops g) = Dropped g
written schema (SetsState g state) = Turned g (written_state state)
written schema (SetsLoaded g flag) = Loaded g flag

abbrev pub written_all : List TableDef → List JournalEntry → List Entry
written_all schema entries = map (written schema) entries

-- the operation's table is one of the schema's
abbrev pub IsOfSchema : List TableDef → Op → Type 0
IsOfSchema schema op = (table_of op).0 < length schema

-- the operation's table is one of the schema's, and it has bytes
abbrev pub CanBeWritten : List TableDef → Op → Type 0
CanBeWritten schema op = IsOfSchema schema op × IsOp 2 (written_op schema op)

-- the tables that the entry writes are of the schema
abbrev pub HasTables : List TableDef → JournalEntry → Type 0
HasTables schema (Commits s) = AllByRecursion (IsOfSchema schema) s.ops
HasTables schema (Prepares s) = AllByRecursion (IsOfSchema schema) s.ops
HasTables schema (Numbers t) = Unit {0}
HasTables schema (Marks t) = Unit {0}
HasTables schema (Defines d text) = Unit {0}
HasTables schema (Drops g) = Unit {0}
HasTables schema (SetsState g state) = Unit {0}
HasTables schema (SetsLoaded g flag) = Unit {0}
