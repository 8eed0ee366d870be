use Rattle.std.proofs.Common.{◌∙◌, rules, sym}
use Rattle.group_catalog.specs.Kept.{group_seen}
use Rattle.stored_tier.proofs.GatherLaws.{chooses_all, chooses_more, chooses_none, chooses_skip}
use Rattle.group_engine.specs.Gaining.{is_taken}
use Rattle.group_engine.proofs.gaining.taken_among.Goals as goal
use Rattle.group_engine.proofs.gaining.taken_among.Goals.{then-is_taken+in_ok-add_copy, else-is_taken}

pub loop-place-init : goal.loop-place-init
loop-place-init c = chooses_none (is_taken c.args.refreshes c.args.which.now (group_seen c.args.group.now) c.args.store.now c.args.hidden.now.table) c.args.rows.now c.new-out.result c.new-out.ensures

pub loop-place-preserved : goal.loop-place-preserved
loop-place-preserved c =
    elim c.if-is_taken.branch [
      | then-is_taken+in_ok-add_copy w ↦ chooses_more (is_taken c.args.refreshes c.args.which.now (group_seen c.args.group.now) c.args.store.now c.args.hidden.now.table) c.args.rows.now c.loop-place.place c.loop-place.out c.loop-place.invariant c.entry_at-entry.result.now c.entry_at-entry.ensures c.if-is_taken.out (sym c.is_taken.ensures ∙ w.if-is_taken.true) (search rules)
      | else-is_taken w ↦ chooses_skip (is_taken c.args.refreshes c.args.which.now (group_seen c.args.group.now) c.args.store.now c.args.hidden.now.table) c.args.rows.now c.loop-place.place c.loop-place.out c.loop-place.invariant c.entry_at-entry.result.now c.entry_at-entry.ensures c.if-is_taken.out (sym c.is_taken.ensures ∙ w.if-is_taken.false) w.out-is
    ]

pub returns : goal.returns
returns c = chooses_all (is_taken c.args.refreshes c.args.which.now (group_seen c.args.group.now) c.args.store.now c.args.hidden.now.table) c.args.rows.now c.loop-place.place c.loop-place.out c.loop-place.invariant c.len-place-end.result c.len-place-end.ensures.value c.loop-place-test.false
