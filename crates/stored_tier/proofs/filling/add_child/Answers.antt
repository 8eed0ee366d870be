use Rattle.std.proofs.Common.{◌∙◌, arith, sym}
use Rattle.stored_tier.proofs.FillSteps.{adds_so, child_added, if_ok, parent_long}
use Rattle.stored_tier.proofs.filling.add_child.Goals as goal

pub add_child-requires-clause-long : goal.add_child-requires-clause-long
add_child-requires-clause-long c =
    let equal = c.if-len-long.false in
    let long = parent_long c.args.schema.now c.args.tree.now c.args.place c.in-Some.child.now.parent c.args.store.now (let le = c.if-child-place.false in omega (arith, le)) c.requires.front in
    let len = c.len-else-len-eq0.ensures in
    let parent = c.parent_key_len-long.ensures in
    omega (arith, equal, long, len, parent)

pub returns : goal.returns
returns c =
    if_ok c.add_child.result
    (λ adds. child_added c.args.schema.now c.args.tree.now c.args.place c.in-Some.child.now c.args.store.now c.add_child.new.self (sym c.in-Some.ensures) c.requires.front
    (adds_so c.args.schema.now c.in-Some.child.now c.args.store.now c.add_child.new.self c.in_ok-key.key c.in_ok-foreign.foreign (c.in_ok-key.ensures ∙ c.primary_places.ensures) (c.in_ok-foreign.ensures ∙ c.foreign_places.ensures) adds))
    c.add_child.ensures.ok
