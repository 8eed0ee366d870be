use Rattle.std.proofs.Common.{length, ap, sym, subst, ◌∙◌}
use Rattle.slot_rows.specs.Orders.{EachNow, EntersOrder}
use Rattle.slot_rows.proofs.ManyLaws.{each_long, slice_back}
use Rattle.slot_rows.proofs.orders.enter_all.Goals as goal

pub returns : goal.returns
returns c =
    let back = slice_back c.args.orders.now.items c.enter_each.new.orders c.args.orders.now.len (each_long (EntersOrder c.args.rows.now c.args.slot) c.as_mut_slice.result.now c.enter_each.new.orders c.enter_each.ensures ∙ ap length c.as_mut_slice.ensures.value) (sym c.as_mut_slice.ensures.len ∙ ap length c.as_mut_slice.ensures.value) in
    subst (EachNow (EntersOrder c.args.rows.now c.args.slot) c.args.orders.now.items) (sym back) (subst (λ xs. EachNow (EntersOrder c.args.rows.now c.args.slot) xs c.enter_each.new.orders) c.as_mut_slice.ensures.value c.enter_each.ensures)
