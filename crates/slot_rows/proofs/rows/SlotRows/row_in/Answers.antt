use Rattle.std.proofs.Common.{◌≡◌, Some, ap, sym, subst, ◌∙◌}
use Rattle.std.specs.FinMap as fm
use Rattle.slot_rows.proofs.SlotKeyLaws.{slot_row}
use Rattle.slot_rows.proofs.rows.SlotRows.row_in.Goals as goal

pub returns : goal.returns
returns c = λ key e.
    let l = c.self.inside in
    let o = l.by_key in
    c.get.ensures ∙ slot_row l.rows o.places o.entries c.self.invariant.0 c.args.slot key (subst (λ h. fm.get h.slots c.args.slot ≡ Some key) (sym c.self.view_is) e) ∙ ap (λ h. fm.get h.table key) c.self.view_is
