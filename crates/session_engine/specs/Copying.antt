-- What is asked of the rows that the backing database gave. (TimesTen SQL Reference, "CREATE TABLE": primary keys and
-- types of columns.)

use Rattle.std.specs.Prelude.{◌≡◌, ℕ, List, Some, true, slice_get}
use Rattle.std.specs.FinMap.{keys, values}
use Rattle.row_types.specs.declared.value.Value.{Value}
use Rattle.table_defs.specs.declared.definition.TableDef.{TableDef}
use Rattle.indexed_rows.specs.Rows.{Table, key_of}
use Rattle.table_state.specs.Tables.{fits_columns}

-- the row at this place in key order stands under its own primary key, and fits the columns
abbrev pub StandsAt : TableDef → Table → ℕ → Type 0
StandsAt def table at =
    (row : List Value) → slice_get (values table) at ≡ Some row
    → (slice_get (keys table) at ≡ Some (key_of def.primary_key row)) × (fits_columns def.columns row ≡ true)
