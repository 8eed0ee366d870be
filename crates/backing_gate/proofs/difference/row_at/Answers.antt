use Rattle.std.proofs.Common.{Option, unwrap_or, sym, ap, ◌∙◌}
use Rattle.std.specs.FinMap.{empty, get, get-empty}
use Rattle.row_types.specs.Order.{key_order}
use Rattle.indexed_rows.specs.Rows.{Table}
use Rattle.backing_gate.proofs.difference.row_at.Goals as goal

pub returns-in-None : goal.returns-in-None
returns-in-None c = sym (get-empty key_order c.args.key.now) ∙ ap (λ (o : Option Table). get (unwrap_or o empty) c.args.key.now) c.in-None.ensures
