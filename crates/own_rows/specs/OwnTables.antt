-- What open operations leave of all tables, and over which table states they lie. (This project's rule.)

use Rattle.std.specs.Prelude.{◌≡◌, ◌<◌, ◌^◌, List, Some, true, is_some, length}
use Rattle.std.specs.FinMap.{len}
use Rattle.table_state.specs.tier_base.specs.declared.number.TableId.{TableId}
use Rattle.table_state.specs.table_defs.specs.declared.definition.TableDef.{TableDef}
use Rattle.table_state.specs.declared.operation.Op.{Op}
use Rattle.table_state.specs.Operations.{applied_all}
use Rattle.table_state.specs.Tables.{TableState, table_at}
use Rattle.table_state.specs.Keyed.{IsKeyed}
use Rattle.own_rows.specs.declared.own.OwnRows.{OwnRows}
use Rattle.own_rows.specs.Knowing.{Knows}
use Rattle.own_rows.specs.Laying.{LiesOn}

-- The own rows are what the operations make: over each state that knows the schema and on which these apply they lie as
-- what they leave there.
abbrev pub AreRowsOf : List TableDef → List Op → List OwnRows → Type 0
AreRowsOf schema ops owns =
    (s now : TableState) → Knows schema s.schema → applied_all ops s ≡ Some now → LiesOn owns s now

-- The tables are such that operations lie on them: the operations apply, there are as many tables as definitions, rows
-- stand under their keys, and each table has fewer than 2^63 of them.
pub record AreShown (ops : List Op) (s : TableState) : Type 0 where
  pub applies : is_some (applied_all ops s) ≡ true
  pub whole : length s.tables ≡ length s.schema
  pub keyed : IsKeyed s
  pub small : (t : TableId) → len (table_at s t) < 2 ^ 63
