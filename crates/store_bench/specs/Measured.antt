-- The table that is measured, the store of its rows, and a session over them.

use Rattle.std.specs.Prelude.{◌≡◌, ◌<◌, ◌^◌, List, [], ◌∷◌, None}
use Rattle.std.specs.FinMap.{len}
use Rattle.row_types.specs.declared.column.Column.{Column}
use Rattle.tier_base.specs.declared.number.TableId.{TableId}
use Rattle.table_defs.specs.declared.definition.TableDef.{TableDef}
use Rattle.table_state.specs.Keyed.{HasFit}
use Rattle.table_state.specs.Sound.{IsTableState}
use Rattle.table_state.specs.Tables.{TableState, table_at}
use Rattle.instances.specs.Views.{kept_at}
use Rattle.own_rows.specs.OwnTables.{AreShown}
use Rattle.session_state.specs.declared.session.Session.{Session}
use Rattle.session_state.specs.Kept.{IsKept}
use Rattle.slot_rows.specs.SlotKeys.{RowsHeld}
use Rattle.group_store.specs.Stores.{Kept}

-- rows by their first column, with another order by the second
pub record HasParentOrder (held : RowsHeld) : Type 0 where
  pub places : held.places ≡ 0 ∷ []
  pub orders : held.orders ≡ (1 ∷ 0 ∷ []) ∷ []

-- the table's key is its first column, and it has no foreign key
pub record IsPlain (def : TableDef) : Type 0 where
  pub key : def.primary_key ≡ 0 ∷ []
  pub plain : def.foreign_key ≡ None

-- a store of the first table alone, whose rows fit these columns
pub record HoldsTable (columns : List Column) (s : Kept) : Type 0 where
  pub table : s.table ≡ record { 0 = 0 }
  pub key : s.key ≡ 0 ∷ []
  pub foreign : s.foreign ≡ []
  pub layers : s.layers ≡ []
  pub rows : HasFit columns (kept_at s.tables 0)

-- the schema is that of such a table alone, and the store is one of it
pub record IsStocked (schema : List TableDef) (s : Kept) : Type 0 where
  pub def : TableDef
  pub one : schema ≡ def ∷ []
  pub plain : IsPlain def
  pub holds : HoldsTable def.columns s

-- the tables are such as operations leave, and each has fewer than 2^63 rows
pub record IsReadable (s : TableState) : Type 0 where
  pub sound : IsTableState s
  pub small : (t : TableId) → len (table_at s t) < 2 ^ 63

-- the session is kept, and its operations apply to the tables
pub record IsOver (session : Session) (s : TableState) : Type 0 where
  pub kept : IsKept s.schema session
  pub shown : AreShown session.ops.items s
