use Rattle.std.proofs.Common.{ap, sym, ◌∙◌}
use Rattle.std.specs.FinMap as fm
use Rattle.slot_rows.specs.row_types.specs.Order.{key_order}
use Rattle.group_store.proofs.shown.ShownScan.find.Goals as goal

pub returns-in-None : goal.returns-in-None
returns-in-None c = sym (ap (λ m. fm.get m c.args.key.now) c.in-None.ensures ∙ fm.get-empty key_order c.args.key.now)
