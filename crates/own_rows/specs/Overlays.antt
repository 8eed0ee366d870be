-- Tables as a session sees them: shown rows with its own operations over them. (This project's rule.)

use Rattle.std.specs.Prelude.{◌≡◌, ◌<◌, ◌≤◌, ◌^◌, List, [], ◌∷◌, Some, length, slice_get}
use Rattle.std.specs.FinMap.{len}
use Rattle.table_state.specs.tier_base.specs.declared.number.TableId.{TableId}
use Rattle.table_state.specs.table_defs.specs.declared.definition.TableDef.{TableDef}
use Rattle.table_state.specs.indexed_rows.specs.Rows.{Table}
use Rattle.table_state.specs.Tables.{TableState, table_at}
use Rattle.table_state.specs.Keyed.{IsUnderKeys}
use Rattle.own_rows.specs.declared.own.OwnRows.{OwnRows}
use Rattle.own_rows.specs.Over.{Agrees, over}

-- the rows of a table with own rows over them
abbrev pub left_over : OwnRows → Table → Table
left_over own base = over own.live own.gone base

abbrev pub over_all : List OwnRows → List Table → List Table
over_all [] tables = tables
over_all (own ∷ owns) [] = []
over_all (own ∷ owns) (table ∷ tables) = left_over own table ∷ over_all owns tables

-- all tables with own rows over them
abbrev pub overlaid : List OwnRows → TableState → TableState
overlaid owns s = record { schema = s.schema; tables = over_all owns s.tables }

-- the own rows fit on the rows of a table
abbrev pub AgreesWith : OwnRows → Table → Type 0
AgreesWith own base = Agrees own.live own.fresh own.gone base

-- the own rows fit on the tables
pub record FitsOn (owns : List OwnRows) (s : TableState) : Type 0 where
  pub agrees : (t : TableId) (own : OwnRows) → slice_get owns t.0 ≡ Some own → AgreesWith own (table_at s t)
  pub keyed :
      (t : TableId) (def : TableDef) → slice_get s.schema t.0 ≡ Some def
      → IsUnderKeys def.primary_key (table_at s t)
  pub small : (t : TableId) → len (table_at s t) < 2 ^ 63
  pub within : length owns ≤ length s.tables
  pub whole : length s.tables ≡ length s.schema
