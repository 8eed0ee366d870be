use Rattle.std.proofs.Common.{List, ap, sym, ◌∙◌}
use Rattle.std.specs.FinMap as fm
use Rattle.slot_rows.specs.row_types.specs.declared.value.Value.{Value}
use Rattle.slot_rows.specs.row_types.specs.Order.{key_order}
use Rattle.group_store.proofs.shown.ShownScan.len.Goals as goal

pub returns-in-None : goal.returns-in-None
returns-in-None c = sym (ap fm.len c.in-None.ensures ∙ fm.len-empty key_order (List Value))
