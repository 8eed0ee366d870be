use Rattle.std.proofs.Common.{◌≡◌, ◌≤◌, ℕ, length, ap, sym, subst, ◌∙◌, arith}
use Rattle.slab.specs.Slab.{get, slab_len}
use Rattle.slot_rows.specs.Orders.{Each, IsOther}
use Rattle.slot_rows.specs.Slots.{AreOrdered}
use Rattle.slot_rows.proofs.ManyLaws.{columns_stay, each_filled, each_kept, each_same, order_same}
use Rattle.slot_rows.proofs.rows.SlotRows.reserve.Goals as goal

pub invariant_of-self : goal.invariant_of-self
invariant_of-self c =
    let l = c.self.inside in
    let same : (s : ℕ) → get c.reserve.new.self s ≡ get l.rows s = λ s. ap (λ slab. get slab s) c.reserve.ensures.rest_kept in (
      order_same l.rows c.reserve.new.self same l.by_key.places l.by_key.entries c.self.invariant.0,
      omega (arith, c.self.invariant.1, c.reserve.ensures.capacity, ap slab_len c.reserve.ensures.rest_kept),
      each_same l.rows c.reserve.new.self same l.by_key.places l.by_key.entries (length l.by_key.room.items) l.others.items c.self.invariant.2,
      c.self.invariant.3,
    )

pub invariant_of-self-in_err-reserve_all : goal.invariant_of-self-in_err-reserve_all
invariant_of-self-in_err-reserve_all c =
    let l = c.self.inside in
    let same : (s : ℕ) → get c.reserve.new.self s ≡ get l.rows s = λ s. ap (λ slab. get slab s) c.reserve.ensures.rest_kept in (
      order_same l.rows c.reserve.new.self same l.by_key.places l.by_key.entries c.self.invariant.0,
      omega (arith, c.self.invariant.1, c.reserve.ensures.capacity, ap slab_len c.reserve.ensures.rest_kept),
      each_kept c.reserve.new.self l.by_key.places l.by_key.entries (length l.by_key.room.items) l.others.items c.reserve_all.new.orders.items
          (each_same l.rows c.reserve.new.self same l.by_key.places l.by_key.entries (length l.by_key.room.items) l.others.items c.self.invariant.2) c.reserve_all.ensures.kept,
      c.self.invariant.3,
    )

pub returns-in_err-reserve_all-clause-orders : goal.returns-in_err-reserve_all-clause-orders
returns-in_err-reserve_all-clause-orders c = columns_stay _ (λ x y k. k.places) c.self.inside.others.items c.reserve_all.new.orders.items c.reserve_all.ensures.kept ∙ ap (λ h. h.orders) c.self.view_is

pub invariant_of-self-2 : goal.invariant_of-self-2
invariant_of-self-2 c =
    let l = c.self.inside in
    let o = l.by_key in
    let new = c.reserve.new.self in
    let now = c.reserve-2.new.self in
    let same : (s : ℕ) → get new s ≡ get l.rows s = λ s. ap (λ slab. get slab s) c.reserve.ensures.rest_kept in
    let most : length now.room.items ≤ c.args.more = c.reserve-2.ensures.most (omega (arith, c.if-len-more.false, c.len.ensures)) in (
      subst (λ ps. AreOrdered new ps now.entries) (sym c.reserve-2.ensures.kept.places) (subst (AreOrdered new o.places) (sym c.reserve-2.ensures.kept.entries) (order_same l.rows new same o.places o.entries c.self.invariant.0)),
      omega (arith, most, c.in_ok-reserve.ensures.room),
      subst (λ ps. Each (IsOther new ps now.entries (length now.room.items)) c.reserve_all.new.orders.items) (sym c.reserve-2.ensures.kept.places)
          (subst (λ es. Each (IsOther new o.places es (length now.room.items)) c.reserve_all.new.orders.items) (sym c.reserve-2.ensures.kept.entries)
          (each_filled new o.places o.entries (length o.room.items) c.args.more (length now.room.items) l.others.items c.reserve_all.new.orders.items most
          (each_same l.rows new same o.places o.entries (length o.room.items) l.others.items c.self.invariant.2) c.in_ok-reserve_all.ensures.kept c.in_ok-reserve_all.ensures.ok)),
      (let same = ap length c.reserve-2.ensures.kept.entries in omega (arith, most, same, c.if-more-len.false, c.len-2.ensures.value)),
    )

pub returns-clause-orders : goal.returns-clause-orders
returns-clause-orders c = columns_stay _ (λ x y k. k.places) c.self.inside.others.items c.reserve_all.new.orders.items c.reserve_all.ensures.kept ∙ ap (λ h. h.orders) c.self.view_is
