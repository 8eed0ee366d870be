use Rattle.std.proofs.Common.{◌≡◌, length, arith}
use Rattle.group_store.proofs.ChildLaws.{each_child, never_child, past_child}
use Rattle.group_store.proofs.columns.place_of_child.Goals as goal

pub returns-then-key-foreign : goal.returns-then-key-foreign
returns-then-key-foreign c = never_child c.args.rows.now.table c.args.foreign.now c.args.key.now c.args.from (λ e. c.if-key-foreign.true e)

pub returns-then-from-len : goal.returns-then-from-len
returns-then-from-len c =
    let none : length c.args.foreign.now ≡ 0 = omega arith in
    let short : length c.args.key.now ≡ 0 = omega arith in
    each_child c.args.rows.now.table c.args.foreign.now c.args.key.now c.args.from none short (omega (arith, c.len.ensures.value, c.if-from-len.true))

pub returns-else-from-len : goal.returns-else-from-len
returns-else-from-len c = past_child c.args.rows.now.table c.args.foreign.now c.args.key.now c.args.from (omega (arith, c.len.ensures.value, c.if-from-len.false))
