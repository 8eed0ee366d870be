use Rattle.std.proofs.Common.{rules, ◌≡◌, ◌∷◌}
use Rattle.slot_rows.proofs.ManyLaws.{first_kept}
use Rattle.slot_rows.proofs.orders.+reserve_each.Goals as goal

pub returns-in_err-reserve-in-Some-clause-kept : goal.returns-in_err-reserve-in-Some-clause-kept
returns-in_err-reserve-in-Some-clause-kept t c =
    let e : c.args.orders.now ≡ c.in-Some.order.now ∷ c.in-Some.orders.now = search rules in
    first_kept c.args.orders.now c.in-Some.order.now c.reserve.new.self c.in-Some.orders.now e c.reserve.ensures.kept
