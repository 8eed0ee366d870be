use Rattle.std.proofs.Common.{◌∙◌, rules, sym}
use Rattle.stored_tier.specs.Choosing.{comes}
use Rattle.stored_tier.proofs.GatherLaws.{chooses_all, chooses_more, chooses_none, chooses_skip}
use Rattle.stored_tier.proofs.gathering.coming_among.Goals as goal
use Rattle.stored_tier.proofs.gathering.coming_among.Goals.{then-comes+in_ok-add_copy, else-comes}

pub loop-place-init : goal.loop-place-init
loop-place-init c = chooses_none (comes c.args.which.now c.args.store.now) c.args.rows.now c.new-out.result c.new-out.ensures

pub loop-place-preserved : goal.loop-place-preserved
loop-place-preserved c =
    elim c.if-comes.branch [
      | then-comes+in_ok-add_copy w ↦ chooses_more (comes c.args.which.now c.args.store.now) c.args.rows.now c.loop-place.place c.loop-place.out c.loop-place.invariant c.entry_at-entry.result.now c.entry_at-entry.ensures c.if-comes.out (sym c.comes.ensures ∙ w.if-comes.true) (search rules)
      | else-comes w ↦ chooses_skip (comes c.args.which.now c.args.store.now) c.args.rows.now c.loop-place.place c.loop-place.out c.loop-place.invariant c.entry_at-entry.result.now c.entry_at-entry.ensures c.if-comes.out (sym c.comes.ensures ∙ w.if-comes.false) w.out-is
    ]

pub returns : goal.returns
returns c = chooses_all (comes c.args.which.now c.args.store.now) c.args.rows.now c.loop-place.place c.loop-place.out c.loop-place.invariant c.len-place-end.result c.len-place-end.ensures.value c.loop-place-test.false
