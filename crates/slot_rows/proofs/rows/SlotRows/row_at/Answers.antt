use Rattle.std.proofs.Common.{ap, sym, subst, ◌<◌, ◌∙◌, slice_get}
use Rattle.std.specs.FinMap as fm
use Rattle.slot_rows.proofs.OrderLaws.{row_at_place, table_len}
use Rattle.slot_rows.proofs.rows.SlotRows.row_at.Goals as goal

pub slot_at-requires : goal.slot_at-requires
slot_at-requires c =
    let l = c.self.inside in
    subst (λ n. c.args.place < n) (ap (λ h. fm.len h.table) (sym c.self.view_is) ∙ table_len l.rows l.by_key.places l.by_key.entries c.self.invariant.0) c.requires

pub returns : goal.returns
returns c =
    let l = c.self.inside in
    let within = subst (λ n. c.args.place < n) (ap (λ h. fm.len h.table) (sym c.self.view_is) ∙ table_len l.rows l.by_key.places l.by_key.entries c.self.invariant.0) c.requires in
    c.get.ensures ∙ row_at_place l.rows l.by_key.places l.by_key.entries c.self.invariant.0 c.args.place c.slot_at.result within c.slot_at.ensures ∙ ap (λ h. slice_get (fm.values h.table) c.args.place) c.self.view_is
