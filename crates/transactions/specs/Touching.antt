-- Which tables writes touch. (TimesTen SQL Reference, "CREATE TABLE": with ON DELETE CASCADE the rows that refer to a
-- deleted row leave with it.)

use Rattle.std.specs.Prelude.{◌≡◌, List, Option, Some, None, Bool, true, false, ◌||◌, is_some, slice_get}
use Rattle.std.specs.List.{list_all, list_any}
use Rattle.evaluator.specs.table_defs.specs.declared.definition.TableDef.{TableDef}
use Rattle.evaluator.specs.table_state.specs.declared.operation.Op.{Op}
use Rattle.evaluator.specs.table_state.specs.Operations.{table_of}
use Rattle.evaluator.specs.table_state.specs.Tables.{TableState}
use Rattle.evaluator.specs.declared.change.Change.{Change}
use Rattle.transactions.specs.Transactions.{is_of}

-- the table is there and has a foreign key
abbrev pub is_child : Option TableDef → Bool
is_child None = false
is_child (Some def) = is_some def.foreign_key

-- the operation's table is one that is written, or has a foreign key
abbrev pub is_touched : List Change → TableState → Op → Bool
is_touched changes s op = list_any (λ change. is_of change.table op) changes
    || is_child (slice_get s.schema (table_of op).0)

-- so it is of each operation
abbrev pub Touches : List Change → TableState → List Op → Type 0
Touches changes s ops = list_all (is_touched changes s) ops ≡ true
