-- Why an operation doesn't apply. (TimesTen SQL Reference, INSERT, UPDATE, DELETE; the codes, their order and what is
-- told behind them are this project's rule.)

use Rattle.std.specs.Prelude.{◌≡◌, ℕ, List, [], ◌∷◌, Option, Some, None, Bool, false, ◌==◌, length, find, take, Result, Ok, Err, slice_get, if◌then◌else◌}
use Rattle.std.specs.FinMap.{contains_key, entries, get}
use Rattle.std.specs.Option.{option_and_then, option_map, option_or}
use Rattle.table_defs.specs.tier_base.specs.Codes.{number_of}
use Rattle.table_defs.specs.tier_base.specs.declared.code.Code.{Code}
use Rattle.table_defs.specs.tier_base.specs.declared.code.Code.TheVariants.{UnknownTable, TypeMismatch, OutOfRange, NullNotAllowed, KeyExists, ParentMissing, ChildExists, KeyColumnSet}
use Rattle.table_defs.specs.tier_base.specs.declared.number.TableId.{TableId}
use Rattle.table_defs.specs.row_types.specs.declared.column.Column.{Column}
use Rattle.table_defs.specs.row_types.specs.declared.rule.Detail.{Detail}
use Rattle.table_defs.specs.row_types.specs.declared.rule.Detail.TheVariants as detail
use Rattle.table_defs.specs.row_types.specs.declared.value.Value.{Value}
use Rattle.table_defs.specs.row_types.specs.Columns.{fit_of}
use Rattle.table_defs.specs.declared.definition.ForeignKey.{ForeignKey}
use Rattle.table_defs.specs.declared.definition.TableDef.{TableDef}
use Rattle.table_state.specs.declared.history.Entry.{Entry}
use Rattle.table_state.specs.declared.history.Entry.TheVariants.{Definition, Foreign, Own}
use Rattle.table_state.specs.declared.operation.Op.{Op}
use Rattle.table_state.specs.declared.operation.Op.TheVariants.{Insert, Update, Delete}
use Rattle.table_state.specs.declared.refusal.ApplyError.{ApplyError}
use Rattle.table_state.specs.declared.refusal.ApplyError.TheVariants as error
use Rattle.indexed_rows.specs.Rows.{Table, changes, key_of}
use Rattle.table_state.specs.Tables.{TableState, has_parent, names_parent, is_there}
use Rattle.table_state.specs.Operations.{applied}
use Rattle.table_state.specs.Histories.{after_entry, state_from}

abbrev pub refused : Code → Detail → Option ApplyError
refused code detail = Some (error.Rule (record { code = code; detail = detail }))

abbrev pub refused_at : Code → Option (List ℕ) → Option ApplyError
refused_at code None = None
refused_at code (Some name) = refused code (detail.Name name)

abbrev pub is_code : Code → Result (Unit {0}) Code → Bool
is_code code (Ok fits) = false
is_code code (Err why) = number_of why == number_of code

-- the first column that refuses its value for this cause
abbrev pub first_refused : Code → List Column → List Value → Option (List ℕ)
first_refused code (column ∷ columns) (value ∷ values) =
    if is_code code (fit_of column value) then Some column.name else first_refused code columns values
first_refused code [] values = None
first_refused code (column ∷ columns) [] = None

-- 104: another number of values than of columns. 105: a value that its column can't hold, in any column. 106: NULL in
-- a column that refuses it.
abbrev pub misfit : List Column → List Value → Option ApplyError
misfit columns row =
    if length row == length columns then option_or (refused_at OutOfRange (first_refused OutOfRange columns row))
    (refused_at NullNotAllowed (first_refused NullNotAllowed columns row))
    else refused TypeMismatch detail.Nothing

-- 107: the key has a row
abbrev pub taken_key : TableDef → List Value → Table → Option ApplyError
taken_key def row table =
    if contains_key table (key_of def.primary_key row) then refused KeyExists
    (detail.Row def.name (key_of def.primary_key row)) else None

abbrev pub row_of : List Value → Option TableDef → Detail
row_of key None = detail.Nothing
row_of key (Some def) = detail.Row def.name key

abbrev pub parent_row : TableState → Option ForeignKey → List Value → Detail
parent_row s None row = detail.Nothing
parent_row s (Some foreign) row = row_of (key_of foreign.columns row) (slice_get s.schema foreign.parent.0)

-- 108: the row that the foreign key names isn't there
abbrev pub missing_parent : TableState → TableDef → List Value → Option ApplyError
missing_parent s def row =
    if has_parent s def.foreign_key row then None else refused ParentMissing (parent_row s def.foreign_key row)

-- the least key of a row that refers to the row of this table and key
abbrev pub child_of : TableId → List Value → TableDef → Table → Option Detail
child_of t key def table =
    option_map (λ e. detail.Row def.name e.0) (find (λ e. names_parent t key def.foreign_key e.1) (entries table))

-- the same of all tables, in the order of their definition
abbrev pub first_child : TableId → List Value → List TableDef → List Table → Option Detail
first_child t key (def ∷ defs) (table ∷ tables) = option_or (child_of t key def table) (first_child t key defs tables)
first_child t key [] tables = None
first_child t key (def ∷ defs) [] = None

-- 109: a row refers to it
abbrev pub has_children : TableState → TableId → List Value → Option ApplyError
has_children s t key = option_and_then (λ child. refused ChildExists child) (first_child t key s.schema s.tables)

-- the row that is there at the key isn't this one
abbrev pub differing : TableId → TableDef → List Value → Table → Option ApplyError
differing t def row table =
    if is_there def row table then None else Some
    (error.Differs t (key_of def.primary_key row) (get table (key_of def.primary_key row)))

abbrev pub column_name : Option Column → Detail
column_name None = detail.Nothing
column_name (Some column) = detail.Name column.name

-- 118: a column of the primary key changes
abbrev pub changed_key : TableDef → List Value → List Value → Option ApplyError
changed_key def old new =
    option_and_then (λ place. refused KeyColumnSet (column_name (slice_get def.columns place)))
    (find (changes old new) def.primary_key)

abbrev pub insert_fault : TableState → List Value → TableDef → Table → Option ApplyError
insert_fault s row def table =
    option_or (misfit def.columns row) (option_or (taken_key def row table) (missing_parent s def row))

abbrev pub update_fault : TableState → TableId → List Value → List Value → TableDef → Table → Option ApplyError
update_fault s t old new def table =
    option_or (changed_key def old new) (option_or (misfit def.columns new)
    (option_or (differing t def old table) (missing_parent s def new)))

abbrev pub delete_fault : TableState → TableId → List Value → TableDef → Table → Option ApplyError
delete_fault s t old def table = option_or (differing t def old table) (has_children s t (key_of def.primary_key old))

-- 102: the table isn't in the schema
abbrev pub in_table : (TableDef → Table → Option ApplyError) → Option TableDef → Option Table → Option ApplyError
in_table fault None table = refused UnknownTable detail.Nothing
in_table fault (Some def) None = refused UnknownTable detail.Nothing
in_table fault (Some def) (Some table) = fault def table

-- the first rule that the operation breaks
abbrev pub broken_by : Op → TableState → Option ApplyError
broken_by (Insert t row) s = in_table (insert_fault s row) (slice_get s.schema t.0) (slice_get s.tables t.0)
broken_by (Update t old new) s = in_table (update_fault s t old new) (slice_get s.schema t.0) (slice_get s.tables t.0)
broken_by (Delete t old) s = in_table (delete_fault s t old) (slice_get s.schema t.0) (slice_get s.tables t.0)

-- the first rule that one of the operations breaks, behind those before it
abbrev pub broken_by_all : List Op → TableState → Option ApplyError
broken_by_all [] s = None
broken_by_all (op ∷ ops) s = option_or (broken_by op s) (option_and_then (broken_by_all ops) (applied op s))

-- the same of the operations of an entry of the history
abbrev pub broken_by_entry : Entry → TableState → Option ApplyError
broken_by_entry (Definition def) s = None
broken_by_entry (Foreign ops) s = broken_by_all ops s
broken_by_entry (Own ticket ops) s = broken_by_all ops s

-- the first rule that one of the entries breaks, behind those before it
abbrev pub broken_in : List Entry → TableState → Option ApplyError
broken_in [] s = None
broken_in (entry ∷ entries) s =
    option_or (broken_by_entry entry s) (option_and_then (broken_in entries) (after_entry entry s))

-- the error tells this fault; memory may be wanting at any time
abbrev pub IsFault : Option ApplyError → ApplyError → Type 0
IsFault fault (error.Rule rule) = fault ≡ Some (error.Rule rule)
IsFault fault (error.Differs t key row) = fault ≡ Some (error.Differs t key row)
IsFault fault error.Memory = Unit {0}

-- there is no fault, or it is told
abbrev pub Judges : {X : Type 0} → Result X ApplyError → Option ApplyError → Type 0
Judges (Ok x) fault = fault ≡ None
Judges (Err e) fault = IsFault fault e

-- the error says that there is no state behind; memory may be wanting at any time
abbrev pub SaysNone : Option TableState → ApplyError → Type 0
SaysNone state (error.Rule rule) = state ≡ None
SaysNone state (error.Differs t key row) = state ≡ None
SaysNone state error.Memory = Unit {0}

-- so many entries made this state, and the next one stays out for this error
pub record StopsAt (entries : List Entry) (old new : TableState) (error : ApplyError) : Type 0 where
  pub steps : ℕ
  pub entry : Entry
  pub taken : state_from (take steps entries) old ≡ Some new
  pub next : slice_get entries steps ≡ Some entry
  pub refused : IsFault (broken_by_entry entry new) error
