use Rattle.std.proofs.Common.{◌≡◌, ◌≤◌, [], length, ap, sym, subst, ◌∙◌, arith}
use Rattle.std.proofs.lemmas.List.{nil_from_length}
use Rattle.std.specs.FinMap as fm
use Rattle.slot_rows.specs.Orders.{Each, IsOther, IsWider}
use Rattle.slot_rows.proofs.FrontLaws.{each_more, first_order}
use Rattle.slot_rows.proofs.OrderLaws.{table_len}
use Rattle.slot_rows.proofs.rows.SlotRows.add_order.Goals as goal

pub invariant_of-self : goal.invariant_of-self
invariant_of-self c =
    let l = c.self.inside in
    let o = l.by_key in
    (c.self.invariant.0, c.self.invariant.1, subst (Each (IsOther l.rows o.places o.entries (length o.room.items))) (sym c.in_err-push.ensures.items) c.self.invariant.2, c.self.invariant.3)

pub invariant_of-self-2 : goal.invariant_of-self-2
invariant_of-self-2 c =
    let l = c.self.inside in
    let o = l.by_key in
    let order = c.reserve.new.self in
    let none : o.entries ≡ [] = nil_from_length o.entries (sym (table_len l.rows o.places o.entries c.self.invariant.0) ∙ ap (λ h. fm.len h.table) c.self.view_is ∙ c.requires.empty) in
    let empty : order.entries ≡ [] = c.reserve.ensures.kept.entries ∙ c.new-order.ensures.entries in
    let wider : IsWider order.places o.places = subst (λ ps. IsWider ps o.places) (sym (c.reserve.ensures.kept.places ∙ c.new-order.ensures.places)) (subst (IsWider c.args.columns) (sym (ap (λ h. h.places) c.self.view_is)) c.requires.wider) in
    let room : length o.room.items ≤ length order.room.items = omega (arith, c.len.ensures, c.in_ok-reserve.ensures.ok) in (
      c.self.invariant.0,
      c.self.invariant.1,
      subst (Each (IsOther l.rows o.places o.entries (length o.room.items))) (sym c.in_ok-push.ensures.items)
          (each_more (IsOther l.rows o.places o.entries (length o.room.items)) l.others.items order c.self.invariant.2 (first_order l.rows o.places o.entries (length o.room.items) order none empty wider room)),
      c.self.invariant.3,
    )
