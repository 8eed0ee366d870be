use Rattle.std.proofs.Common.{◌≡◌, [], length, slice_index_or, arith, ap, ◌∙◌}
use Rattle.store_bench.proofs.parents.has_child.Goals as goal

pub next_with-requires-clause-some : goal.next_with-requires-clause-some
next_with-requires-clause-some c =
    let one : length c.values.result.now ≡ 1 = ap length c.values.ensures ∙ c.key_of.ensures in
    omega arith

pub next_with-requires-clause-before : goal.next_with-requires-clause-before
next_with-requires-clause-before c =
    let one : length c.values.result.now ≡ 1 = ap length c.values.ensures ∙ c.key_of.ensures in
    let key : length c.args.slots.now.places ≡ 1 = ap length c.requires.places in
    let both : length (slice_index_or c.args.slots.now.orders 0 []) ≡ 2 = ap (λ orders. length (slice_index_or orders 0 [])) c.requires.orders in
    omega arith
