-- Rows that refer to a key. (TimesTen SQL Reference, "CREATE TABLE": foreign keys.)

use Rattle.std.specs.Prelude.{ℕ, List, Option, Some, None, Bool, false, drop, slice_get}
use Rattle.std.specs.FinMap.{values}
use Rattle.table_defs.specs.row_types.specs.declared.value.Value.{Value}
use Rattle.table_defs.specs.tier_base.specs.declared.number.TableId.{TableId}
use Rattle.table_defs.specs.declared.definition.TableDef.{TableDef}
use Rattle.table_defs.specs.Declarations.{foreign_places}
use Rattle.indexed_rows.specs.Rows.{first_from, has_key}
use Rattle.table_state.specs.Tables.{TableState, table_at}

-- whether a row of this table refers to the key by the table's foreign key
abbrev pub refers_to : List Value → Option TableDef → List Value → Bool
refers_to key None row = false
refers_to key (Some def) row = has_key (foreign_places def.foreign_key) key row

-- the first place, from a place on, of a row of the table that refers to the key
abbrev pub child_from : TableState → TableId → List Value → ℕ → Option ℕ
child_from s t key from = first_from (refers_to key (slice_get s.schema t.0)) from (drop from (values (table_at s t)))
