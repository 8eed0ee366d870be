use Rattle.std.proofs.Common.{◌≡◌, ◌<◌, ◌+◌, OnSome, Some, true, false, ap, sym, subst, length, ◌∙◌, arith}
use Rattle.std.proofs.lemmas.List.Edits.{length-remove}
use Rattle.std.specs.FinMap as fm
use Rattle.slab.specs.Slab.{slab_len}
use Rattle.indexed_rows.specs.Places.{IsKeyAt}
use Rattle.slot_rows.specs.Orders.{Each, IsOther}
use Rattle.slot_rows.specs.SlotKeys.{slot_entries, slot_keys_in}
use Rattle.slot_rows.specs.Slots.{AreOrdered, table_in}
use Rattle.slot_rows.proofs.OrderLaws.{left_order, left_rows, row_at_key, row_is_there, slots_left, table_len}
use Rattle.slot_rows.proofs.ManyLaws.{columns_stay, each_includes, each_left}
use Rattle.indexed_rows.proofs.MapLaws.{has_key}
use Rattle.slot_rows.proofs.SlotKeyLaws.{key_in_slot, only_slot, slot_emptied}
use Rattle.slot_rows.proofs.rows.SlotRows.remove_at.Goals as goal

pub slot_at-slot-requires : goal.slot_at-slot-requires
slot_at-slot-requires c =
    let l = c.self.inside in
    subst (λ n. c.args.place < n) (ap (λ h. fm.len h.table) (sym c.self.view_is) ∙ table_len l.rows l.by_key.places l.by_key.entries c.self.invariant.0) c.requires

pub leave-requires : goal.leave-requires
leave-requires c =
    let l = c.self.inside in
    subst (λ n. c.args.place < n) (ap (λ h. fm.len h.table) (sym c.self.view_is) ∙ table_len l.rows l.by_key.places l.by_key.entries c.self.invariant.0) c.requires

pub leave_all-requires : goal.leave_all-requires
leave_all-requires c =
    let l = c.self.inside in
    each_includes l.rows l.by_key.places l.by_key.entries (length l.by_key.room.items) c.self.invariant.0 c.args.place c.slot_at-slot.result c.slot_at-slot.ensures l.others.items c.self.invariant.2

pub invariant_of-self : goal.invariant_of-self
invariant_of-self c =
    let l = c.self.inside in
    let o = l.by_key in
    let new = c.try_remove.new.self in
    let slot = c.slot_at-slot.result in
    let within = subst (λ n. c.args.place < n) (ap (λ h. fm.len h.table) (sym c.self.view_is) ∙ table_len l.rows o.places o.entries c.self.invariant.0) c.requires in
    let there = row_is_there l.rows o.places o.entries c.self.invariant.0 c.args.place slot within c.slot_at-slot.ensures in
    let fewer : slab_len new + 1 ≡ slab_len l.rows = subst (λ r. OnSome r (slab_len new + 1 ≡ slab_len l.rows)) (c.try_remove.ensures.value ∙ there) c.try_remove.ensures.len in
    let long = ap (λ es. length es + 1) c.leave.ensures.entries ∙ length-remove o.entries c.args.place within in (
      subst (λ ps. AreOrdered new ps c.leave.new.self.entries) (sym c.leave.ensures.places) (subst (AreOrdered new o.places) (sym c.leave.ensures.entries)
          (left_order l.rows new slot o.places o.entries c.args.place c.try_remove.ensures.updates c.self.invariant.0 c.slot_at-slot.ensures)),
      omega (arith, c.self.invariant.1, fewer, c.try_remove.ensures.capacity, ap (λ r. length r.items) c.leave.ensures.room),
      subst (λ ps. Each (IsOther new ps c.leave.new.self.entries (length c.leave.new.self.room.items)) c.leave_all.new.orders.items) (sym c.leave.ensures.places)
          (subst (λ r. Each (IsOther new o.places c.leave.new.self.entries (length r.items)) c.leave_all.new.orders.items) (sym c.leave.ensures.room)
          (each_left l.rows o.places o.entries (length o.room.items) c.self.invariant.0 c.args.place slot c.slot_at-slot.ensures new c.try_remove.ensures.updates c.leave.new.self.entries c.leave.ensures.entries long l.others.items c.leave_all.new.orders.items c.self.invariant.2 c.leave_all.ensures)),
      (let most = c.self.invariant.3 in let same = ap (λ r. length r.items) c.leave.ensures.room in omega (arith, most, long, same)),
    )

pub returns-clause-taken : goal.returns-clause-taken
returns-clause-taken c = λ key found.
    let l = c.self.inside in
    let o = l.by_key in
    let new = c.try_remove.new.self in
    let within = subst (λ n. c.args.place < n) (ap (λ h. fm.len h.table) (sym c.self.view_is) ∙ table_len l.rows o.places o.entries c.self.invariant.0) c.requires in
    let here = subst (λ h. IsKeyAt (fm.entries h.table) key c.args.place) (sym c.self.view_is) found in
    record {
      was = c.try_remove.ensures.value ∙ row_at_key l.rows o.places o.entries c.self.invariant.0 key c.args.place c.slot_at-slot.result within c.slot_at-slot.ensures here ∙ ap (λ h. fm.get h.table key) c.self.view_is;
      now = ap (λ ps. table_in new ps c.leave.new.self.entries) c.leave.ensures.places ∙ ap (table_in new o.places) c.leave.ensures.entries
          ∙ left_rows l.rows new c.slot_at-slot.result o.places o.entries c.args.place c.try_remove.ensures.updates c.self.invariant.0 c.slot_at-slot.ensures key here
          ∙ ap (λ h. fm.remove h.table key) c.self.view_is;
    }

pub returns-clause-orders : goal.returns-clause-orders
returns-clause-orders c = columns_stay _ (λ x y k. k.places) c.self.inside.others.items c.leave_all.new.orders.items c.leave_all.ensures ∙ ap (λ h. h.orders) c.self.view_is

pub returns-clause-slots : goal.returns-clause-slots
returns-clause-slots c = λ key found.
    let l = c.self.inside in
    let o = l.by_key in
    let new = c.try_remove.new.self in
    let slot = c.slot_at-slot.result in
    let within = subst (λ n. c.args.place < n) (ap (λ h. fm.len h.table) (sym c.self.view_is) ∙ table_len l.rows o.places o.entries c.self.invariant.0) c.requires in
    let here = subst (λ h. IsKeyAt (fm.entries h.table) key c.args.place) (sym c.self.view_is) found in
    let there = row_is_there l.rows o.places o.entries c.self.invariant.0 c.args.place slot within c.slot_at-slot.ensures in
    let next : new.vacant_key ≡ slot = subst (λ r. OnSome r (new.vacant_key ≡ slot)) (c.try_remove.ensures.value ∙ there) c.try_remove.ensures.key_is_next in
    let is = key_in_slot l.rows o.places o.entries c.self.invariant.0 key c.args.place slot c.slot_at-slot.ensures here in
    let left = ap (λ ps. slot_keys_in new ps c.leave.new.self.entries) c.leave.ensures.places ∙ ap (slot_keys_in new o.places) c.leave.ensures.entries
    ∙ ap (λ xs. fm.from_entries (slot_entries new o.places xs)) (slots_left l.rows new slot o.places o.entries c.args.place c.try_remove.ensures.updates c.self.invariant.0 c.slot_at-slot.ensures)
    ∙ slot_emptied l.rows o.places o.entries c.self.invariant.0 new c.args.place slot c.slot_at-slot.ensures c.try_remove.ensures.updates in (
      λ none. let z : true ≡ false = sym (has_key c.args.self.now.table key c.args.place found) ∙ none in cc,
      λ other e.
          let same = only_slot l.rows o.places o.entries c.self.invariant.0 key c.args.place slot c.slot_at-slot.ensures is other (subst (λ h. fm.get h.slots other ≡ Some key) (sym c.self.view_is) e) in
          (left ∙ ap (λ h. fm.remove h.slots slot) c.self.view_is ∙ ap (fm.remove c.args.self.now.slots) same, next ∙ same),
    )
