-- Tables that no foreign key joins with the others. (TimesTen Cache User's Guide: a cache group has all tables that
-- its foreign keys join.)

use Rattle.std.specs.Prelude.{◌≡◌, List, Some, Bool, true, false, not, length, slice_get}
use Rattle.std.specs.List.{list_all}
use Rattle.table_state.specs.tier_base.specs.declared.number.TableId.{TableId}
use Rattle.table_state.specs.table_defs.specs.declared.definition.ForeignKey.{ForeignKey}
use Rattle.table_state.specs.table_defs.specs.declared.definition.TableDef.{TableDef}
use Rattle.table_state.specs.declared.history.Sealed.{Sealed}
use Rattle.table_state.specs.declared.operation.Op.{Op}
use Rattle.table_state.specs.Copies.{is_one_of}
use Rattle.table_state.specs.Operations.{applied_all}
use Rattle.table_state.specs.Tables.{TableState, table_at}
use Rattle.order_laws.specs.Commits.{is_op_on, ops_conflict}

-- no foreign key joins one of these tables with another table: each has both its ends among them, or none
abbrev pub IsClosed : List TableId → List TableDef → Type 0
IsClosed tables schema =
    (t : TableId) (def : TableDef) (foreign : ForeignKey) → slice_get schema t.0 ≡ Some def
    → def.foreign_key ≡ Some foreign → is_one_of tables foreign.parent ≡ is_one_of tables t

-- all operations are on these tables
abbrev pub are_on : List TableId → List Op → Bool
are_on tables ops = list_all (is_op_on tables) ops

-- none is
abbrev pub are_off : List TableId → List Op → Bool
are_off tables ops = list_all (λ op. not (is_op_on tables op)) ops

-- all operations of the transactions are on these tables
abbrev pub all_on : List TableId → List Sealed → Bool
all_on tables log = list_all (λ s. are_on tables s.ops) log

-- two states of one schema have the same rows in these tables
pub record AgreeOn (tables : List TableId) (s n : TableState) : Type 0 where
  pub schema : n.schema ≡ s.schema
  pub size : length n.tables ≡ length s.tables
  pub rows : (t : TableId) → is_one_of tables t ≡ true → table_at n t ≡ table_at s t

-- operations on these tables conflict with none on others
abbrev pub SidesApart : List TableId → List TableDef → Type 0
SidesApart tables schema =
    (xs ys : List Op) → are_on tables xs ≡ true → are_off tables ys ≡ true → ops_conflict schema xs ys ≡ false

-- operations lead from one state to another; a third has the rows of the first in these tables, which nothing joins
-- with others
pub record LeadsBeside (tables : List TableId) (ops : List Op) (s t n : TableState) : Type 0 where
  pub closed : IsClosed tables s.schema
  pub agree : AgreeOn tables s n
  pub leads : applied_all ops s ≡ Some t

-- operations lead to a state that has the rows of this one in these tables
pub record LeadsAlike (tables : List TableId) (ops : List Op) (n t : TableState) : Type 0 where
  pub state : TableState
  pub leads : applied_all ops n ≡ Some state
  pub agree : AgreeOn tables t state
