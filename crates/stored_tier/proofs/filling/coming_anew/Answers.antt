use Rattle.std.proofs.Common.{◌∙◌, rules, sym}
use Rattle.group_catalog.specs.Kept.{group_seen}
use Rattle.stored_tier.specs.Filling.{comes_anew}
use Rattle.stored_tier.proofs.GatherLaws.{chooses_all, chooses_more, chooses_none, chooses_skip}
use Rattle.stored_tier.proofs.filling.coming_anew.Goals as goal
use Rattle.stored_tier.proofs.filling.coming_anew.Goals.{then-comes_anew+in_ok-add_copy, else-comes_anew}

pub loop-place-init : goal.loop-place-init
loop-place-init c =
    chooses_none (comes_anew (group_seen c.args.group.now) c.args.old.now c.args.hidden.now.table) c.args.rows.now c.new-out.result c.new-out.ensures

pub loop-place-preserved : goal.loop-place-preserved
loop-place-preserved c =
    elim c.if-comes_anew.branch [
      | then-comes_anew+in_ok-add_copy w ↦ chooses_more (comes_anew (group_seen c.args.group.now) c.args.old.now c.args.hidden.now.table) c.args.rows.now c.loop-place.place c.loop-place.out c.loop-place.invariant c.entry_at-entry.result.now c.entry_at-entry.ensures c.if-comes_anew.out (sym c.comes_anew.ensures ∙ w.if-comes_anew.true) (search rules)
      | else-comes_anew w ↦ chooses_skip (comes_anew (group_seen c.args.group.now) c.args.old.now c.args.hidden.now.table) c.args.rows.now c.loop-place.place c.loop-place.out c.loop-place.invariant c.entry_at-entry.result.now c.entry_at-entry.ensures c.if-comes_anew.out (sym c.comes_anew.ensures ∙ w.if-comes_anew.false) w.out-is
    ]

pub returns : goal.returns
returns c =
    chooses_all (comes_anew (group_seen c.args.group.now) c.args.old.now c.args.hidden.now.table) c.args.rows.now c.loop-place.place c.loop-place.out c.loop-place.invariant c.len-place-end.result c.len-place-end.ensures.value c.loop-place-test.false
