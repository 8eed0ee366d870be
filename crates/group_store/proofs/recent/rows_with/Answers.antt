use Rattle.std.proofs.Common.{List, ap, ◌∙◌}
use Rattle.std.specs.FinMap as fm
use Rattle.slot_rows.specs.row_types.specs.declared.value.Value.{Value}
use Rattle.slot_rows.specs.row_types.specs.Order.{key_order}
use Rattle.group_store.proofs.recent.rows_with.Goals as goal

pub add_order-requires-clause-empty : goal.add_order-requires-clause-empty
add_order-requires-clause-empty c = ap fm.len c.new-rows.ensures.table ∙ fm.len-empty key_order (List Value)
