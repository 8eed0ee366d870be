-- What is so of each table state that operations made. (TimesTen SQL Reference, "CREATE TABLE": primary keys, foreign
-- keys, types of columns and NOT NULL.)

use Rattle.std.specs.Prelude.{◌≡◌, ◌<◌, ℕ, List, Some, true, length, slice_get}
use Rattle.std.specs.FinMap.{get}
use Rattle.table_defs.specs.row_types.specs.declared.value.Value.{Value}
use Rattle.table_defs.specs.tier_base.specs.declared.number.TableId.{TableId}
use Rattle.table_defs.specs.declared.definition.ForeignKey.{ForeignKey}
use Rattle.table_defs.specs.declared.definition.TableDef.{TableDef}
use Rattle.indexed_rows.specs.Rows.{Table, key_of}
use Rattle.table_state.specs.Independence.{IsWhole}
use Rattle.table_state.specs.Tables.{TableState, fits_columns, has_parent, table_at}

-- the row of each key has that key at these places
abbrev pub IsUnderKeys : List ℕ → Table → Type 0
IsUnderKeys places table = (key row : List Value) → get table key ≡ Some row → key_of places row ≡ key

-- each row has a value for each column, of its type, and NULL only where it may stand
abbrev pub HasFittingRows : TableState → Type 0
HasFittingRows s = (t : TableId) (def : TableDef) (key row : List Value) → slice_get s.schema t.0 ≡ Some def
    → get (table_at s t) key ≡ Some row → fits_columns def.columns row ≡ true

-- each foreign key names a row that is there
abbrev pub IsLinked : TableState → Type 0
IsLinked s = (t : TableId) (def : TableDef) (key row : List Value) → slice_get s.schema t.0 ≡ Some def
    → get (table_at s t) key ≡ Some row → has_parent s def.foreign_key row ≡ true

-- the definition's foreign key refers to one of the first so many tables
abbrev pub RefersBack : ℕ → TableDef → Type 0
RefersBack n def = (foreign : ForeignKey) → def.foreign_key ≡ Some foreign → foreign.parent.0 < n

-- A table state: as many tables as definitions, parents before their children, rows under their primary keys that fit
-- their columns, and each foreign key names a row.
pub record IsTableState (s : TableState) : Type 0 where
  pub whole : IsWhole s
  pub back : (t : ℕ) (def : TableDef) → slice_get s.schema t ≡ Some def → RefersBack t def
  pub keys : (t : TableId) (def : TableDef) → slice_get s.schema t.0 ≡ Some def
      → IsUnderKeys def.primary_key (table_at s t)
  pub fits : HasFittingRows s
  pub linked : IsLinked s
