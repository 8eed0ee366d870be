use Rattle.std.proofs.Common.{length, ap, sym, subst, ◌∙◌}
use Rattle.std.specs.Result.{OnOk}
use Rattle.slot_rows.specs.Orders.{Each, EachNow, HasSpare, SameOrder}
use Rattle.slot_rows.proofs.ManyLaws.{each_long, slice_back}
use Rattle.slot_rows.proofs.orders.reserve_all.Goals as goal

pub returns-clause-kept : goal.returns-clause-kept
returns-clause-kept c =
    let back = slice_back c.args.orders.now.items c.reserve_each.new.orders c.args.orders.now.len (each_long SameOrder c.as_mut_slice.result.now c.reserve_each.new.orders c.reserve_each.ensures.kept ∙ ap length c.as_mut_slice.ensures.value) (sym c.as_mut_slice.ensures.len ∙ ap length c.as_mut_slice.ensures.value) in
    subst (EachNow SameOrder c.args.orders.now.items) (sym back) (subst (λ xs. EachNow SameOrder xs c.reserve_each.new.orders) c.as_mut_slice.ensures.value c.reserve_each.ensures.kept)

pub returns-clause-ok : goal.returns-clause-ok
returns-clause-ok c =
    let back = slice_back c.args.orders.now.items c.reserve_each.new.orders c.args.orders.now.len (each_long SameOrder c.as_mut_slice.result.now c.reserve_each.new.orders c.reserve_each.ensures.kept ∙ ap length c.as_mut_slice.ensures.value) (sym c.as_mut_slice.ensures.len ∙ ap length c.as_mut_slice.ensures.value) in
    subst (λ ys. OnOk c.reserve_each.result (Each (HasSpare c.args.more) ys)) (sym back) c.reserve_each.ensures.ok
