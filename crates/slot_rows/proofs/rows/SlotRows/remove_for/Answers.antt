use Rattle.std.proofs.Common.{◌≡◌, ◌<◌, ap, sym, subst, ◌∙◌}
use Rattle.std.specs.FinMap as fm
use Rattle.indexed_rows.specs.Places.{IsGapFor, IsKeyAt}
use Rattle.indexed_rows.proofs.MapLaws.{not_removed}
use Rattle.indexed_rows.specs.Rows.{key_of}
use Rattle.slot_rows.specs.Slots.{table_in}
use Rattle.slot_rows.proofs.OrderLaws.{table_len}
use Rattle.slot_rows.proofs.rows.SlotRows.remove_for.Goals as goal

pub remove_at-requires : goal.remove_at-requires
remove_at-requires c =
    let l = c.self.inside in
    subst (λ n. c.in-Ok.place < n) (sym (table_len l.rows l.by_key.places l.by_key.entries c.self.invariant.0) ∙ ap (λ h. fm.len h.table) c.self.view_is) c.in-Ok.ensures.bound

pub returns-in-Err-clause-table : goal.returns-in-Err-clause-table
returns-in-Err-clause-table c =
    let o = c.self.inside.by_key in
    let gap = subst (λ v. IsGapFor (fm.entries (table_in c.self.inside.rows o.places o.entries)) (key_of o.places v) c.in-Err.field-0) c.values.ensures c.in-Err.ensures.absent in
    subst (λ h. h.table ≡ fm.remove h.table (key_of h.places c.args.row.now)) c.self.view_is (not_removed (table_in c.self.inside.rows o.places o.entries) (key_of o.places c.args.row.now) c.in-Err.field-0 gap)

pub returns-in-Ok-clause-table : goal.returns-in-Ok-clause-table
returns-in-Ok-clause-table c =
    let l = c.self.inside in
    let o = l.by_key in
    let key = key_of c.args.self.now.places c.args.row.now in
    let here : IsKeyAt (fm.entries c.args.self.now.table) key c.in-Ok.place = subst (λ h. IsKeyAt (fm.entries h.table) (key_of h.places c.args.row.now) c.in-Ok.place) c.self.view_is
    (subst (λ v. IsKeyAt (fm.entries (table_in l.rows o.places o.entries)) (key_of o.places v) c.in-Ok.place) c.values.ensures c.in-Ok.ensures.found) in
    (c.remove_at.ensures.taken key here).now
