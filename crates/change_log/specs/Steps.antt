-- The log that operations and histories leave. (This project's model of the backing database.)

use Rattle.std.specs.Prelude.{◌≡◌, List, [], ◌∷◌, ◌++◌, Option, Some, None, map, slice_get, if◌then◌else◌}
use Rattle.table_state.specs.row_types.specs.declared.value.Value.{Value}
use Rattle.table_state.specs.tier_base.specs.declared.number.TableId.{TableId}
use Rattle.table_state.specs.table_defs.specs.declared.definition.TableDef.{TableDef}
use Rattle.table_state.specs.indexed_rows.specs.Rows.{key_of}
use Rattle.table_state.specs.declared.history.Entry.{Entry}
use Rattle.table_state.specs.declared.history.Entry.TheVariants.{Definition, Foreign, Own}
use Rattle.table_state.specs.declared.operation.Op.{Op}
use Rattle.table_state.specs.declared.operation.Op.TheVariants.{Insert, Update, Delete}
use Rattle.table_state.specs.Copies.{is_one_of}
use Rattle.table_state.specs.Histories.{after_entry}
use Rattle.table_state.specs.Tables.{TableState}
use Rattle.change_log.specs.declared.log.RowChange.{RowChange}
use Rattle.change_log.specs.Logs.{is_at, row_at}

-- an entry leads from one state to another: the row of its key becomes another, and no other row changes
pub record IsStep (change : RowChange) (from to : TableState) : Type 0 where
  pub old : row_at from change.table change.key ≡ change.old
  pub rows :
      (t : TableId) (key : List Value)
      → row_at to t key ≡ (if is_at t key change then change.new else row_at from t key)

-- entries lead from one state to another, one after the other
abbrev pub Leads : List RowChange → TableState → TableState → Type 0
Leads [] from to = (t : TableId) (key : List Value) → row_at to t key ≡ row_at from t key
Leads (change ∷ log) from to = (between : TableState) × IsStep change from between × Leads log between to

abbrev pub key_in : Option TableDef → List Value → List Value
key_in None row = []
key_in (Some def) row = key_of def.primary_key row

-- the entry that is written beside an operation
abbrev pub change_of : List TableDef → Op → RowChange
change_of schema (Insert t row) =
    record { table = t; key = key_in (slice_get schema t.0) row; old = None; new = Some row }
change_of schema (Update t old new) =
    record { table = t; key = key_in (slice_get schema t.0) old; old = Some old; new = Some new }
change_of schema (Delete t old) =
    record { table = t; key = key_in (slice_get schema t.0) old; old = Some old; new = None }

abbrev pub changes_of : List TableDef → List Op → List RowChange
changes_of schema ops = map (change_of schema) ops

-- a transaction has an entry for each operation, and a definition has none
abbrev pub entry_changes : List TableDef → Entry → List RowChange
entry_changes schema (Definition def) = []
entry_changes schema (Foreign ops) = changes_of schema ops
entry_changes schema (Own ticket ops) = changes_of schema ops

-- the log of a history that begins at a state
abbrev pub logged_from : List Entry → Option TableState → List RowChange
logged_from [] s = []
logged_from (entry ∷ entries) None = []
logged_from (entry ∷ entries) (Some s) = entry_changes s.schema entry ++ logged_from entries (after_entry entry s)

-- the log of entries over the definitions that stand behind them
abbrev pub logged_over : List TableDef → List Entry → List RowChange
logged_over schema [] = []
logged_over schema (entry ∷ entries) = entry_changes schema entry ++ logged_over schema entries

-- the entries of these tables
abbrev pub of_tables : List TableId → List RowChange → List RowChange
of_tables tables [] = []
of_tables tables (change ∷ log) =
    if is_one_of tables change.table then change ∷ of_tables tables log else of_tables tables log
