-- Writes of others, on shared tables alone.

use Rattle.std.specs.Prelude.{◌≡◌, List, Some, true}
use Rattle.tier_base.specs.declared.number.TableId.{TableId}
use Rattle.table_state.specs.Operations.{applied_all}
use Rattle.table_state.specs.Tables.{TableState}
use Rattle.evaluator.specs.declared.change.Change.{Change}
use Rattle.transactions.specs.Transactions.{Leaves, written_by_all}
use Rattle.transactions.specs.declared.written.Written.{Written}
use Rattle.outside.specs.Others.{are_on_shared}

-- the writes did this on the tables, and change shared tables alone
pub record WritesOnShared (shared : List TableId) (changes : List Change) (written : Written) (old new : TableState)
    : Type 0 where
  pub leaves : Leaves (written_by_all changes old) new written
  pub applies : applied_all written.ops old ≡ Some new
  pub shares : are_on_shared shared written.ops ≡ true
