-- Tables and table states. (TimesTen SQL Reference, "CREATE TABLE": primary keys and foreign keys.)

use Rattle.std.specs.Prelude.{List, [], ◌∷◌, Option, Some, None, Bool, true, false, ◌&&◌, ◌||◌, nat_eq, slice_get, unwrap_or}
use Rattle.std.specs.List.{list_any}
use Rattle.std.specs.FinMap.{empty, contains_key, get, values}
use Rattle.std.specs.Result.{is_ok}
use Rattle.table_defs.specs.row_types.specs.declared.value.Value.{Value}
use Rattle.table_defs.specs.row_types.specs.declared.column.Column.{Column}
use Rattle.table_defs.specs.row_types.specs.Columns.{fit_of}
use Rattle.table_defs.specs.tier_base.specs.declared.number.TableId.{TableId}
use Rattle.indexed_rows.specs.Rows.{Table, is_same, key_of}
use Rattle.table_defs.specs.declared.definition.TableDef.{TableDef}
use Rattle.table_defs.specs.declared.definition.ForeignKey.{ForeignKey}

-- a schema, and the rows of each of its tables
pub record TableState : Type 0 where
  pub schema : List TableDef
  pub tables : List Table

-- as many values as columns, and each column takes its value
abbrev pub fits_columns : List Column → List Value → Bool
fits_columns [] [] = true
fits_columns (column ∷ columns) (value ∷ values) = is_ok (fit_of column value) && fits_columns columns values
fits_columns [] (value ∷ values) = false
fits_columns (column ∷ columns) [] = false

-- the rows of a table of the state, none where there is no such table
abbrev pub table_at : TableState → TableId → Table
table_at s t = unwrap_or (slice_get s.tables t.0) empty

-- the row that the foreign key names is there
abbrev pub has_parent : TableState → Option ForeignKey → List Value → Bool
has_parent s None row = true
has_parent s (Some foreign) row = contains_key (table_at s foreign.parent) (key_of foreign.columns row)

-- the foreign key refers to the row of this table and key
abbrev pub names_parent : TableId → List Value → Option ForeignKey → List Value → Bool
names_parent t key None row = false
names_parent t key (Some foreign) row = is_table t foreign.parent && is_same (key_of foreign.columns row) key
  where
    is_table : TableId → TableId → Bool
    is_table a b = nat_eq a.0 b.0

-- some row of these tables refers to it
abbrev pub has_child_in : List TableDef → List Table → TableId → List Value → Bool
has_child_in [] tables t key = false
has_child_in (def ∷ defs) [] t key = false
has_child_in (def ∷ defs) (table ∷ tables) t key = list_any (names_parent t key def.foreign_key) (values table)
    || has_child_in defs tables t key

abbrev pub has_child : TableState → TableId → List Value → Bool
has_child s t key = has_child_in s.schema s.tables t key

-- this row was found
abbrev pub is_found : List Value → Option (List Value) → Bool
is_found row None = false
is_found row (Some found) = is_same found row

-- the table has this row at its key
abbrev pub is_there : TableDef → List Value → Table → Bool
is_there def row table = is_found row (get table (key_of def.primary_key row))
