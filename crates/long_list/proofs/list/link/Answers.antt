use Rattle.std.proofs.Common.{◌∙◌, ◌≡◌, ◌≤◌, ◌++◌, ap, subst, arith, length, get_or}
use Rattle.std.specs.List.{insert}
use Rattle.std.specs.Option.{IfSome}
use Rattle.long_list.proofs.TailLaws.{linked_behind, handed_over}
use Rattle.long_list.proofs.list.link.Goals as goal

pub returns-then-end-place : goal.returns-then-end-place
returns-then-end-place g c =
    linked_behind c.args.front.now c.args.tail.now c.args.node c.join_at.new.list c.args.place c.len-end.result c.len-end.ensures c.if-end-place.true c.join_at.ensures

pub returns : goal.returns
returns g c =
    let within : c.args.place ≤ length c.args.front.now = omega (arith, c.len-end.ensures) in
    ap (λ l. c.carry.new.self ++ l) c.join_at-2.ensures
    ∙ handed_over c.args.front.now c.args.tail.now c.args.node c.take_in.new.node c.carry.new.self c.args.place c.unwrap.result.now c.carry.new.carried within c.requires.one c.if-take_in.ensures.kept (subst (λ o. IfSome o (λ x. x.now ≡ get_or c.take_in.new.node 0 x.now)) c.unwrap.ensures c.front_mut.ensures.value) (c.carry.ensures ∙ ap (λ l. insert l c.args.place c.unwrap.result.now) c.if-take_in.ensures.left)
