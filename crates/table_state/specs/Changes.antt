-- Changes of one row of one table, and how they are taken back.

use Rattle.std.specs.Prelude.{◌≡◌, ◌+◌, ◌<◌, ◌^◌, List, [], ◌∷◌, Some, slice_get, slice_set}
use Rattle.std.specs.FinMap.{len, remove}
use Rattle.table_defs.specs.row_types.specs.declared.value.Value.{Value}
use Rattle.table_defs.specs.tier_base.specs.declared.number.TableId.{TableId}
use Rattle.table_defs.specs.declared.definition.TableDef.{TableDef}
use Rattle.table_state.specs.declared.change.Undo.{Undo}
use Rattle.table_state.specs.declared.change.Undo.TheVariants.{Inserted, Changed, Deleted}
use Rattle.indexed_rows.specs.Rows.{Table, key_of, put_in, put_over}
use Rattle.table_state.specs.Tables.{TableState, table_at}

-- one table of the state is another
abbrev pub with_table : TableState → TableId → Table → TableState
with_table s t table = record { schema = s.schema; tables = slice_set s.tables t.0 table }

-- the key of the row, where the table is there
abbrev pub IsKeyIn : TableState → TableId → List Value → List Value → Type 0
IsKeyIn s t row key = (def : TableDef) → slice_get s.schema t.0 ≡ Some def → key ≡ key_of def.primary_key row

-- a change is taken back
abbrev pub taken_back : Undo → TableState → TableState
taken_back (Inserted t key) s = with_table s t (remove (table_at s t) key)
taken_back (Changed t key row) s = with_table s t (put_over (table_at s t) key row)
taken_back (Deleted t left) s = with_table s t (put_in (table_at s t) left.0 left.1)

-- all changes are taken back, the last one first
abbrev pub all_taken_back : List Undo → TableState → TableState
all_taken_back [] s = s
all_taken_back (undo ∷ undos) s = taken_back undo (all_taken_back undos s)

-- the table can hold the row that is put back
abbrev pub HasRoom : Undo → TableState → Type 0
HasRoom (Inserted t key) s = Unit {0}
HasRoom (Changed t key row) s = Unit {0}
HasRoom (Deleted t left) s = len (table_at s t) + 1 < 2 ^ 63

-- so it can when each of them is taken back
abbrev pub AllHaveRoom : List Undo → TableState → Type 0
AllHaveRoom [] s = Unit {0}
AllHaveRoom (undo ∷ undos) s = AllHaveRoom undos s × HasRoom undo (all_taken_back undos s)

-- taken back, the changes lead from one state to another
pub record LeadsBack (undos : List Undo) (from to : TableState) : Type 0 where
  pub room : AllHaveRoom undos from
  pub back : all_taken_back undos from ≡ to
