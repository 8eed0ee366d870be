use Rattle.std.proofs.Common.{ap, sym, ◌∙◌}
use Rattle.std.specs.FinMap as fm
use Rattle.indexed_rows.proofs.MapLaws.{no_row}
use Rattle.slot_rows.specs.Slots.{table_in}
use Rattle.slot_rows.proofs.OrderLaws.{row_at_key}
use Rattle.slot_rows.proofs.rows.SlotRows.get.Goals as goal

pub returns-in-Ok : goal.returns-in-Ok
returns-in-Ok c =
    let l = c.self.inside in
    c.get.ensures ∙ row_at_key l.rows l.by_key.places l.by_key.entries c.self.invariant.0 c.args.key.now c.in-Ok.place c.slot_at.result c.in-Ok.ensures.bound c.slot_at.ensures c.in-Ok.ensures.found
    ∙ ap (λ h. fm.get h.table c.args.key.now) c.self.view_is

pub returns-in-Err : goal.returns-in-Err
returns-in-Err c =
    let l = c.self.inside in
    sym (no_row (table_in l.rows l.by_key.places l.by_key.entries) c.args.key.now c.in-Err.field-0 c.in-Err.ensures.absent) ∙ ap (λ h. fm.get h.table c.args.key.now) c.self.view_is
