-- Whether one operation can be applied.

use Rattle.std.specs.Prelude.{List, [], ◌∷◌, Option}
use Rattle.evaluator.specs.tier_base.specs.declared.number.TableId.{TableId}
use Rattle.evaluator.specs.row_types.specs.declared.value.Value.{Value}
use Rattle.evaluator.specs.table_state.specs.declared.operation.Op.TheVariants.{Insert, Update, Delete}
use Rattle.evaluator.specs.table_state.specs.declared.refusal.ApplyError.{ApplyError}
use Rattle.evaluator.specs.table_state.specs.Refusals.{broken_by_all}
use Rattle.evaluator.specs.table_state.specs.Tables.{TableState}

-- the first rule that an insert of this row breaks
abbrev pub broken_by_insert : TableId → List Value → TableState → Option ApplyError
broken_by_insert t row s = broken_by_all (Insert t row ∷ []) s

-- the first rule that a change of the old row into the new one breaks
abbrev pub broken_by_update : TableId → List Value → List Value → TableState → Option ApplyError
broken_by_update t old new s = broken_by_all (Update t old new ∷ []) s

-- the first rule that a deletion of this row breaks
abbrev pub broken_by_delete : TableId → List Value → TableState → Option ApplyError
broken_by_delete t old s = broken_by_all (Delete t old ∷ []) s
