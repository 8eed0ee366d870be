use Rattle.std.proofs.Common.{ap, subst, sym, ◌∙◌}
use Rattle.std.specs.FinMap as fm
use Rattle.slot_rows.specs.SlotKeys.{IsKeyedBy}
use Rattle.slot_rows.proofs.SlotKeyLaws.{rows_keyed}
use Rattle.slot_rows.proofs.OrderLaws.{table_len}
use Rattle.slot_rows.proofs.rows.SlotRows.len.Goals as goal

pub returns-clause-value : goal.returns-clause-value
returns-clause-value c =
    let l = c.self.inside in
    c.len.ensures.value ∙ sym (table_len l.rows l.by_key.places l.by_key.entries c.self.invariant.0) ∙ ap (λ h. fm.len h.table) c.self.view_is

pub returns-clause-keyed : goal.returns-clause-keyed
returns-clause-keyed c =
    let l = c.self.inside in
    subst (λ h. IsKeyedBy h.places h.table) c.self.view_is (rows_keyed l.rows l.by_key.places l.by_key.entries c.self.invariant.0)
