-- What operations make of a table state. (TimesTen SQL Reference, INSERT, UPDATE, DELETE; foreign keys.)

use Rattle.std.specs.Prelude.{List, [], ◌∷◌, Option, Some, None, Bool, ◌&&◌, not, slice_get, slice_set, if◌then◌else◌}
use Rattle.std.specs.Option.{option_and_then, option_map}
use Rattle.std.specs.FinMap.{contains_key, insert, remove}
use Rattle.table_defs.specs.row_types.specs.declared.value.Value.{Value}
use Rattle.table_defs.specs.tier_base.specs.declared.number.TableId.{TableId}
use Rattle.table_defs.specs.declared.definition.TableDef.{TableDef}
use Rattle.table_state.specs.declared.operation.Op.{Op}
use Rattle.table_state.specs.declared.operation.Op.TheVariants.{Insert, Update, Delete}
use Rattle.indexed_rows.specs.Rows.{Table, key_of, is_same}
use Rattle.table_state.specs.Tables.{TableState, fits_columns, has_parent, has_child, is_there}

abbrev pub only_if : {X : Type 0} → Bool → X → Option X
only_if test x = if test then Some x else None

-- the row goes in where its key is new, it fits and its parent is there
abbrev pub with_row : TableState → List Value → TableDef → Table → Option Table
with_row s row def table =
    only_if (fits_columns def.columns row && not (contains_key table (key_of def.primary_key row))
    && has_parent s def.foreign_key row) (insert table (key_of def.primary_key row) row)

-- the row that is there becomes another of the same key, which fits and whose parent is there
abbrev pub with_change : TableState → List Value → List Value → TableDef → Table → Option Table
with_change s old new def table =
    only_if (fits_columns def.columns new && is_same (key_of def.primary_key old) (key_of def.primary_key new)
    && is_there def old table && has_parent s def.foreign_key new) (insert table (key_of def.primary_key new) new)

-- the row that is there leaves where it has no child
abbrev pub without_row : TableState → TableId → List Value → TableDef → Table → Option Table
without_row s t old def table =
    only_if (is_there def old table && not (has_child s t (key_of def.primary_key old)))
    (remove table (key_of def.primary_key old))

-- one table of the state changes
abbrev pub on_table : TableState → TableId → (TableDef → Table → Option Table) → Option TableState
on_table s t change =
    option_and_then (λ def. option_and_then (λ table.
    option_map (λ new. record { schema = s.schema; tables = slice_set s.tables t.0 new }) (change def table))
    (slice_get s.tables t.0)) (slice_get s.schema t.0)

-- one operation; none where it doesn't apply
abbrev pub applied : Op → TableState → Option TableState
applied (Insert t row) s = on_table s t (with_row s row)
applied (Update t old new) s = on_table s t (with_change s old new)
applied (Delete t old) s = on_table s t (without_row s t old)

-- the table of an operation's row
abbrev pub table_of : Op → TableId
table_of (Insert t row) = t
table_of (Update t old new) = t
table_of (Delete t old) = t

-- from left to right, and none if one doesn't apply
abbrev pub applied_all : List Op → TableState → Option TableState
applied_all [] s = Some s
applied_all (op ∷ ops) s = option_and_then (applied_all ops) (applied op s)
