-- Rows that fit the tables of a tree. (TimesTen SQL Reference, "CREATE TABLE": columns.)

use Rattle.std.specs.Prelude.{◌≡◌, ℕ, List, true, Some, slice_get}
use Rattle.tier_base.specs.declared.number.TableId.{TableId}
use Rattle.row_types.specs.declared.column.Column.{Column}
use Rattle.row_types.specs.declared.value.Value.{Value}
use Rattle.indexed_rows.specs.Rows.{Table}
use Rattle.table_defs.specs.declared.definition.TableDef.{TableDef}
use Rattle.table_state.specs.Keyed.{HasFit}
use Rattle.table_state.specs.Tables.{fits_columns}
use Rattle.instances.specs.declared.tree.Tree.{Tree}
use Rattle.instances.specs.Trees.{table_of}

-- the rows of each table of a tree fit its columns
abbrev pub AreFit : List TableDef → Tree → List Table → Type 0
AreFit schema tree tables =
    (i : ℕ) (rows : Table) (t : TableId) (def : TableDef) → slice_get tables i ≡ Some rows → table_of tree i ≡ Some t
    → slice_get schema t.0 ≡ Some def → HasFit def.columns rows

-- rows fit these columns
abbrev pub DoFit : List Column → List (List Value) → Type 0
DoFit columns rows = (j : ℕ) (row : List Value) → slice_get rows j ≡ Some row → fits_columns columns row ≡ true

-- so do these rows, table by table
abbrev pub AreListedFit : List TableDef → Tree → List (List (List Value)) → Type 0
AreListedFit schema tree lists =
    (i j : ℕ) (rows : List (List Value)) (row : List Value) (t : TableId) (def : TableDef)
    → slice_get lists i ≡ Some rows → slice_get rows j ≡ Some row → table_of tree i ≡ Some t
    → slice_get schema t.0 ≡ Some def → fits_columns def.columns row ≡ true
