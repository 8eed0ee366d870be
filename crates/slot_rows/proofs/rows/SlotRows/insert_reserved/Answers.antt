use Rattle.std.proofs.Common.{◌≡◌, ◌<◌, ◌+◌, true, false, None, refl, ap, sym, subst, cond, length, ◌∙◌, arith}
use Rattle.std.proofs.lemmas.List.Edits.{length-insert}
use Rattle.std.specs.FinMap as fm
use Rattle.indexed_rows.specs.Places.{IsGapFor, IsKeyAt}
use Rattle.indexed_rows.proofs.MapLaws.{has_key, no_key}
use Rattle.indexed_rows.specs.Rows.{key_of, put_in}
use Rattle.slot_rows.specs.Leads.{lead_of}
use Rattle.slot_rows.specs.Orders.{Each, IsOther}
use Rattle.slot_rows.specs.SlotKeys.{slot_entries, slot_keys_in}
use Rattle.slot_rows.specs.Slots.{AreOrdered, slots_of, table_in}
use Rattle.slot_rows.specs.declared.order.Entry.{Entry}
use Rattle.slot_rows.proofs.OrderLaws.{gap_stays, other, order_entered, order_stays, put_where_there, slots_now, table_entered, table_stays}
use Rattle.slot_rows.proofs.ManyLaws.{columns_stay, each_awaits, each_entered}
use Rattle.slot_rows.proofs.SlotKeyLaws.{slot_filled, slot_was_free}
use Rattle.slot_rows.proofs.rows.SlotRows.insert_reserved.Goals as goal

pub enter-requires-clause-fits : goal.enter-requires-clause-fits
enter-requires-clause-fits c =
    let l = c.self.inside in
    let room : 0 < length l.by_key.room.items = subst (λ h. 0 < h.spare) (sym c.self.view_is) c.requires in
    let fits = c.self.invariant.3 in omega (arith, room, fits)

pub enter_all-requires : goal.enter_all-requires
enter_all-requires c =
    let l = c.self.inside in
    let o = l.by_key in
    let gap = subst (λ v. IsGapFor (fm.entries (table_in l.rows o.places o.entries)) (key_of o.places v) c.in-Err.place) c.values.ensures c.in-Err.ensures.absent in
    let room : 0 < length o.room.items = subst (λ h. 0 < h.spare) (sym c.self.view_is) c.requires in
    let fits : length o.entries + 1 < 9223372036854775808 = (let most = c.self.invariant.3 in omega (arith, room, most)) in
    each_awaits l.rows c.insert_reserved-slot.new.self o.places o.entries (length o.room.items) c.self.invariant.0 c.args.row c.insert_reserved-slot.result c.in-Err.place c.insert_reserved-slot.ensures.was_vacant c.insert_reserved-slot.ensures.updates gap
    (omega (arith, c.enter.ensures.room)) fits l.others.items c.self.invariant.2

pub invariant_of-self : goal.invariant_of-self
invariant_of-self c =
    let l = c.self.inside in
    let o = l.by_key in
    let new = c.insert_reserved-slot.new.self in
    let slot = c.insert_reserved-slot.result in
    let fresh = c.insert_reserved-slot.ensures.was_vacant in
    let changed = c.insert_reserved-slot.ensures.updates in
    let e : Entry = record { lead = c.lead_of_row-lead.result; slot = slot } in
    let gap = subst (λ v. IsGapFor (fm.entries (table_in l.rows o.places o.entries)) (key_of o.places v) c.in-Err.place) c.values.ensures c.in-Err.ensures.absent in
    let leads : c.lead_of_row-lead.result ≡ lead_of (key_of o.places c.args.row) = c.lead_of_row-lead.ensures ∙ ap (λ ps. lead_of (key_of ps c.values-in-Err.result.now)) c.as_slice.ensures ∙ ap (λ v. lead_of (key_of o.places v)) c.values-in-Err.ensures in
    let stays = order_stays l.rows new slot c.args.row fresh changed o.places o.entries c.self.invariant.0 in
    let gap_now = gap_stays l.rows new slot c.args.row fresh changed o.places o.entries c.self.invariant.0 (key_of o.places c.args.row) c.in-Err.place gap in
    let slots = ap slots_of c.enter.ensures.entries ∙ slots_now new o.places o.entries c.in-Err.place e c.args.row changed.changed stays gap_now in
    let long = ap length c.enter.ensures.entries ∙ length-insert o.entries c.in-Err.place e c.in-Err.ensures.bound in (
      subst (λ ps. AreOrdered new ps c.enter.new.self.entries) (sym c.enter.ensures.places) (subst (AreOrdered new o.places) (sym c.enter.ensures.entries) (order_entered new o.places o.entries c.in-Err.place e c.args.row changed.changed stays gap_now leads)),
      omega (arith, c.self.invariant.1, c.insert_reserved-slot.ensures.len, c.insert_reserved-slot.ensures.capacity, c.enter.ensures.room),
      subst (λ ps. Each (IsOther new ps c.enter.new.self.entries (length c.enter.new.self.room.items)) c.enter_all.new.orders.items) (sym c.enter.ensures.places)
          (each_entered l.rows new o.places o.entries (length o.room.items) c.self.invariant.0 c.args.row slot c.in-Err.place fresh changed gap c.enter.new.self.entries slots long (length c.enter.new.self.room.items) c.enter.ensures.room l.others.items c.enter_all.new.orders.items c.self.invariant.2 c.enter_all.ensures),
      (let most = c.self.invariant.3 in omega (arith, most, long, c.enter.ensures.room)),
    )

pub returns-in-Ok-clause-table : goal.returns-in-Ok-clause-table
returns-in-Ok-clause-table c =
    let l = c.self.inside in
    let o = l.by_key in
    let here = subst (λ v. IsKeyAt (fm.entries (table_in l.rows o.places o.entries)) (key_of o.places v) c.in-Ok.field-0) c.values.ensures c.in-Ok.ensures.found in
    let has = has_key (table_in l.rows o.places o.entries) (key_of o.places c.args.row) c.in-Ok.field-0 here in
    put_where_there c.args.self.now.table (key_of c.args.self.now.places c.args.row) c.args.row (subst (λ h. fm.contains_key h.table (key_of h.places c.args.row) ≡ true) c.self.view_is has)

pub returns-in-Err-clause-table : goal.returns-in-Err-clause-table
returns-in-Err-clause-table c =
    let l = c.self.inside in
    let o = l.by_key in
    let new = c.insert_reserved-slot.new.self in
    let slot = c.insert_reserved-slot.result in
    let fresh = c.insert_reserved-slot.ensures.was_vacant in
    let changed = c.insert_reserved-slot.ensures.updates in
    let table = table_in l.rows o.places o.entries in
    let e : Entry = record { lead = c.lead_of_row-lead.result; slot = slot } in
    let gap = subst (λ v. IsGapFor (fm.entries table) (key_of o.places v) c.in-Err.place) c.values.ensures c.in-Err.ensures.absent in
    let stays = order_stays l.rows new slot c.args.row fresh changed o.places o.entries c.self.invariant.0 in
    let gap_now = gap_stays l.rows new slot c.args.row fresh changed o.places o.entries c.self.invariant.0 (key_of o.places c.args.row) c.in-Err.place gap in
    ap (λ ps. table_in new ps c.enter.new.self.entries) c.enter.ensures.places ∙ ap (table_in new o.places) c.enter.ensures.entries
    ∙ table_entered new o.places o.entries c.in-Err.place e c.args.row changed.changed stays gap_now
    ∙ ap (λ m. fm.insert m (key_of o.places c.args.row) c.args.row) (table_stays l.rows new slot c.args.row fresh changed o.places o.entries c.self.invariant.0)
    ∙ ap (λ b. cond b table (fm.insert table (key_of o.places c.args.row) c.args.row)) (sym (no_key table (key_of o.places c.args.row) c.in-Err.place gap))
    ∙ ap (λ h. put_in h.table (key_of h.places c.args.row) c.args.row) c.self.view_is

pub returns-in-Err-clause-orders : goal.returns-in-Err-clause-orders
returns-in-Err-clause-orders c = columns_stay _ (λ x y k. k.places) c.self.inside.others.items c.enter_all.new.orders.items c.enter_all.ensures ∙ ap (λ h. h.orders) c.self.view_is

pub returns-in-Ok-clause-slot : goal.returns-in-Ok-clause-slot
returns-in-Ok-clause-slot c =
    let l = c.self.inside in
    let o = l.by_key in
    let here = subst (λ v. IsKeyAt (fm.entries (table_in l.rows o.places o.entries)) (key_of o.places v) c.in-Ok.field-0) c.values.ensures c.in-Ok.ensures.found in
    let has = has_key (table_in l.rows o.places o.entries) (key_of o.places c.args.row) c.in-Ok.field-0 here in (
      subst (λ h. fm.contains_key h.table (key_of h.places c.args.row) ≡ true) c.self.view_is has,
      refl,
    )

pub returns-in-Err-clause-slot : goal.returns-in-Err-clause-slot
returns-in-Err-clause-slot c =
    let l = c.self.inside in
    let o = l.by_key in
    let new = c.insert_reserved-slot.new.self in
    let slot = c.insert_reserved-slot.result in
    let fresh = c.insert_reserved-slot.ensures.was_vacant in
    let changed = c.insert_reserved-slot.ensures.updates in
    let e : Entry = record { lead = c.lead_of_row-lead.result; slot = slot } in
    let key = key_of o.places c.args.row in
    let gap = subst (λ v. IsGapFor (fm.entries (table_in l.rows o.places o.entries)) (key_of o.places v) c.in-Err.place) c.values.ensures c.in-Err.ensures.absent in
    let stays = order_stays l.rows new slot c.args.row fresh changed o.places o.entries c.self.invariant.0 in
    let gap_now = gap_stays l.rows new slot c.args.row fresh changed o.places o.entries c.self.invariant.0 key c.in-Err.place gap in
    let slots = ap slots_of c.enter.ensures.entries ∙ slots_now new o.places o.entries c.in-Err.place e c.args.row changed.changed stays gap_now in
    let live = other l.rows new slot c.args.row fresh changed o.places o.entries c.self.invariant.0 in
    let filled = ap (λ ps. slot_keys_in new ps c.enter.new.self.entries) c.enter.ensures.places ∙ ap (λ xs. fm.from_entries (slot_entries new o.places xs)) slots
    ∙ slot_filled l.rows o.places o.entries c.self.invariant.0 new slot c.args.row fresh changed live c.in-Err.place in (
      subst (λ h. fm.contains_key h.table (key_of h.places c.args.row) ≡ false) c.self.view_is (no_key (table_in l.rows o.places o.entries) key c.in-Err.place gap),
      subst (λ h. fm.get h.slots slot ≡ None) c.self.view_is (slot_was_free l.rows o.places o.entries c.self.invariant.0 new slot c.args.row fresh changed live),
      filled ∙ ap (λ h. fm.insert h.slots slot (key_of h.places c.args.row)) c.self.view_is,
      c.insert_reserved-slot.ensures.key ∙ ap (λ h. h.vacant) c.self.view_is,
    )
