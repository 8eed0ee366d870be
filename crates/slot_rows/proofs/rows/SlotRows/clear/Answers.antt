use Rattle.std.proofs.Common.{◌≡◌, length, count_by, is_some, ap, sym, subst, ◌∙◌, arith}
use Rattle.slab.specs.Slab.{slab_len}
use Rattle.slot_rows.specs.Orders.{Each, IsOther}
use Rattle.slot_rows.specs.Slots.{table_in}
use Rattle.slot_rows.specs.SlotKeys.{slot_keys_in}
use Rattle.indexed_rows.proofs.MapLaws.{no_entries}
use Rattle.slot_rows.proofs.FrontLaws.{each_emptied, none_ordered}
use Rattle.slot_rows.proofs.ManyLaws.{columns_stay}
use Rattle.slot_rows.proofs.rows.SlotRows.clear.Goals as goal

pub invariant_of-self : goal.invariant_of-self
invariant_of-self c =
    let l = c.self.inside in
    let o = l.by_key in
    let rows = c.clear.new.self in
    let now = c.clear-2.new.self in
    let empty = c.clear-2.ensures in
    let few = ap (λ r. length r.items) empty.room in
    let none = ap length empty.entries in (
      none_ordered rows now.places now.entries empty.entries,
      (let held : slab_len rows ≡ 0 = ap (count_by is_some) c.clear.ensures.empty in omega (arith, c.self.invariant.1, few, c.clear.ensures.capacity, held)),
      subst (λ ps. Each (IsOther rows ps now.entries (length now.room.items)) c.clear_all.new.orders.items) (sym empty.places)
          (subst (λ r. Each (IsOther rows o.places now.entries (length r.items)) c.clear_all.new.orders.items) (sym empty.room)
          (each_emptied l.rows rows o.places o.entries now.entries (length o.room.items) empty.entries l.others.items c.clear_all.new.orders.items c.self.invariant.2 c.clear_all.ensures)),
      (let most = c.self.invariant.3 in omega (arith, most, few, none)),
    )

pub returns-clause-table : goal.returns-clause-table
returns-clause-table c = ap (table_in c.clear.new.self c.clear-2.new.self.places) c.clear-2.ensures.entries ∙ no_entries

pub returns-clause-slots : goal.returns-clause-slots
returns-clause-slots c = ap (slot_keys_in c.clear.new.self c.clear-2.new.self.places) c.clear-2.ensures.entries

pub returns-clause-orders : goal.returns-clause-orders
returns-clause-orders c = columns_stay _ (λ x y k. k.places) c.self.inside.others.items c.clear_all.new.orders.items c.clear_all.ensures ∙ ap (λ h. h.orders) c.self.view_is
