use Rattle.std.proofs.Common.{◌≡◌, length, ap, sym, subst, ◌∙◌}
use Rattle.std.proofs.lemmas.List.Edits.{length-insert}
use Rattle.std.specs.FinMap as fm
use Rattle.indexed_rows.specs.Places.{IsGapFor, IsKeyAt}
use Rattle.indexed_rows.specs.Rows.{key_of}
use Rattle.slot_rows.specs.Leads.{lead_of}
use Rattle.slot_rows.specs.Slots.{AreOrdered, row_in, slots_of, table_in}
use Rattle.slot_rows.specs.declared.order.Entry.{Entry}
use Rattle.slot_rows.proofs.OrderLaws.{is_live, order_entered, slots_now}
use Rattle.slot_rows.proofs.order.Order.enter_row.Goals as goal

pub returns-in-Ok : goal.returns-in-Ok
returns-in-Ok c =
    let o = c.args.self.now in
    absurd (c.requires.absent c.in-Ok.field-0 (subst (λ v. IsKeyAt (fm.entries (table_in c.args.rows.now o.places o.entries)) (key_of o.places v) c.in-Ok.field-0) c.values_in-row.ensures c.in-Ok.ensures.found))

pub returns-in-Err : goal.returns-in-Err
returns-in-Err c =
    let o = c.args.self.now in
    let slab = c.args.rows.now in
    let e : Entry = record { lead = c.lead_of_row-lead.result; slot = c.args.slot } in
    let there = is_live slab c.args.slot c.requires.live in
    let gap = subst (λ v. IsGapFor (fm.entries (table_in slab o.places o.entries)) (key_of o.places v) c.in-Err.place) c.values_in-row.ensures c.in-Err.ensures.absent in
    let leads : c.lead_of_row-lead.result ≡ lead_of (key_of o.places (row_in slab c.args.slot)) = c.lead_of_row-lead.ensures ∙ ap (λ ps. lead_of (key_of ps c.values_in-row.result.now)) c.as_slice.ensures ∙ ap (λ v. lead_of (key_of o.places v)) c.values_in-row.ensures in
    record {
      ordered = subst (λ ps. AreOrdered slab ps c.enter.new.self.entries) (sym c.enter.ensures.places) (subst (AreOrdered slab o.places) (sym c.enter.ensures.entries)
          (order_entered slab o.places o.entries c.in-Err.place e (row_in slab c.args.slot) there c.requires.ordered gap leads));
      places = c.enter.ensures.places;
      at = c.in-Err.place;
      slots = ap slots_of c.enter.ensures.entries ∙ slots_now slab o.places o.entries c.in-Err.place e (row_in slab c.args.slot) there c.requires.ordered gap;
      long = ap length c.enter.ensures.entries ∙ length-insert o.entries c.in-Err.place e c.in-Err.ensures.bound;
      room = c.enter.ensures.room;
    }
