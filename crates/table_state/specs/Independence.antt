-- Operations that have nothing to do with one another, and tables that come later.

use Rattle.std.specs.Prelude.{◌≡◌, List, [], ◌∷◌, ◌++◌, Option, Some, None, Bool, false, nat_eq, length, slice_get}
use Rattle.std.specs.FinMap.{empty}
use Rattle.table_defs.specs.tier_base.specs.declared.number.TableId.{TableId}
use Rattle.table_defs.specs.declared.definition.ForeignKey.{ForeignKey}
use Rattle.table_defs.specs.declared.definition.TableDef.{TableDef}
use Rattle.table_state.specs.Tables.{TableState}

-- the foreign key refers to the table
abbrev pub refers_to : TableId → Option ForeignKey → Bool
refers_to t None = false
refers_to t (Some foreign) = nat_eq t.0 foreign.parent.0

abbrev pub is_child_of : TableId → Option TableDef → Bool
is_child_of parent None = false
is_child_of parent (Some def) = refers_to parent def.foreign_key

-- two different tables, of which none refers to the other
pub record AreApart (schema : List TableDef) (a b : TableId) : Type 0 where
  pub different : nat_eq a.0 b.0 ≡ false
  pub one : is_child_of b (slice_get schema a.0) ≡ false
  pub other : is_child_of a (slice_get schema b.0) ≡ false

-- each table has its rows
abbrev pub IsWhole : TableState → Type 0
IsWhole s = length s.tables ≡ length s.schema

-- a table without rows is behind the others
abbrev pub with_new : TableDef → TableState → TableState
with_new def s = record { schema = s.schema ++ def ∷ []; tables = s.tables ++ empty ∷ [] }
