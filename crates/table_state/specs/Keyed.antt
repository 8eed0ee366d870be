-- Rows that stand under their own primary keys, and fit the columns. (TimesTen SQL Reference, "CREATE TABLE": primary
-- keys.)

use Rattle.std.specs.Prelude.{◌≡◌, ℕ, List, Some, slice_get, true}
use Rattle.std.specs.FinMap.{get}
use Rattle.table_defs.specs.row_types.specs.declared.column.Column.{Column}
use Rattle.table_defs.specs.row_types.specs.declared.value.Value.{Value}
use Rattle.table_defs.specs.declared.definition.TableDef.{TableDef}
use Rattle.indexed_rows.specs.Rows.{Table}
use Rattle.table_state.specs.Tables.{TableState, fits_columns}
pub use Rattle.indexed_rows.specs.Rows.{has_key}
pub use Rattle.table_state.specs.Sound.{IsUnderKeys}

-- each row fits the columns: it has a value for each, which the column takes
abbrev pub HasFit : List Column → Table → Type 0
HasFit columns table = (key row : List Value) → get table key ≡ Some row → fits_columns columns row ≡ true

-- in each table of the state the rows stand under their keys, and fit the columns
abbrev pub IsKeyed : TableState → Type 0
IsKeyed s = (t : ℕ) (def : TableDef) (table : Table) → slice_get s.schema t ≡ Some def
    → slice_get s.tables t ≡ Some table → IsUnderKeys def.primary_key table × HasFit def.columns table
