use Rattle.std.proofs.Common.{length, ap, sym, subst, ◌∙◌}
use Rattle.slot_rows.specs.Orders.{EachNow, EmptiesOrder}
use Rattle.slot_rows.proofs.ManyLaws.{each_long, slice_back}
use Rattle.slot_rows.proofs.orders.clear_all.Goals as goal

pub returns : goal.returns
returns c =
    let back = slice_back c.args.orders.now.items c.clear_each.new.orders c.args.orders.now.len (each_long EmptiesOrder c.as_mut_slice.result.now c.clear_each.new.orders c.clear_each.ensures ∙ ap length c.as_mut_slice.ensures.value) (sym c.as_mut_slice.ensures.len ∙ ap length c.as_mut_slice.ensures.value) in
    subst (EachNow EmptiesOrder c.args.orders.now.items) (sym back) (subst (λ xs. EachNow EmptiesOrder xs c.clear_each.new.orders) c.as_mut_slice.ensures.value c.clear_each.ensures)
