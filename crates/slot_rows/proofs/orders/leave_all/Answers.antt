use Rattle.std.proofs.Common.{length, ap, sym, subst, ◌∙◌}
use Rattle.slot_rows.specs.Orders.{EachNow, LeavesOrder}
use Rattle.slot_rows.proofs.ManyLaws.{each_long, slice_back}
use Rattle.slot_rows.proofs.orders.leave_all.Goals as goal

pub returns : goal.returns
returns c =
    let back = slice_back c.args.orders.now.items c.leave_each.new.orders c.args.orders.now.len (each_long (LeavesOrder c.args.slot) c.as_mut_slice.result.now c.leave_each.new.orders c.leave_each.ensures ∙ ap length c.as_mut_slice.ensures.value) (sym c.as_mut_slice.ensures.len ∙ ap length c.as_mut_slice.ensures.value) in
    subst (EachNow (LeavesOrder c.args.slot) c.args.orders.now.items) (sym back) (subst (λ xs. EachNow (LeavesOrder c.args.slot) xs c.leave_each.new.orders) c.as_mut_slice.ensures.value c.leave_each.ensures)
