use Rattle.std.proofs.Common.{◌+◌, length, ap, subst, ◌∙◌}
use Rattle.std.proofs.lemmas.List.Edits.{length-remove}
use Rattle.std.specs.FinMap as fm
use Rattle.indexed_rows.specs.Places.{IsGapFor, IsKeyAt}
use Rattle.indexed_rows.specs.Rows.{key_of}
use Rattle.slot_rows.specs.Slots.{table_in}
use Rattle.slot_rows.proofs.ManyLaws.{found_slot, not_absent}
use Rattle.slot_rows.proofs.order.Order.leave_row.Goals as goal

pub returns-in-Ok : goal.returns-in-Ok
returns-in-Ok c =
    let o = c.args.self.now in
    let slab = c.args.rows.now in
    let here = subst (λ v. IsKeyAt (fm.entries (table_in slab o.places o.entries)) (key_of o.places v) c.in-Ok.place) c.values_in.ensures c.in-Ok.ensures.found in
    record {
      places = c.leave.ensures.places;
      at = c.in-Ok.place;
      was = found_slot slab o.places o.entries c.requires.ordered c.requires.place c.args.slot c.requires.there c.in-Ok.place here;
      entries = c.leave.ensures.entries;
      long = ap (λ es. length es + 1) c.leave.ensures.entries ∙ length-remove o.entries c.in-Ok.place c.in-Ok.ensures.bound;
      room = c.leave.ensures.room;
    }

pub returns-in-Err : goal.returns-in-Err
returns-in-Err c =
    let o = c.args.self.now in
    let slab = c.args.rows.now in
    let gap = subst (λ v. IsGapFor (fm.entries (table_in slab o.places o.entries)) (key_of o.places v) c.in-Err.field-0) c.values_in.ensures c.in-Err.ensures.absent in
    absurd (not_absent slab o.places o.entries c.requires.ordered c.requires.place c.args.slot c.requires.there c.in-Err.field-0 gap)
