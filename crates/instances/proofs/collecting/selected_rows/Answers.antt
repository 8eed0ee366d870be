use Rattle.std.proofs.Common.{◌∙◌, rules, sym}
use Rattle.instances.specs.Views.{selects}
use Rattle.instances.proofs.Gathering.{gathers_all, gathers_more, gathers_none, gathers_skip}
use Rattle.instances.proofs.collecting.selected_rows.Goals as goal
use Rattle.instances.proofs.collecting.selected_rows.Goals.{then-selects+in_ok-add_copy, else-selects}

pub loop-place-init : goal.loop-place-init
loop-place-init c = gathers_none (selects c.args.filter.now) c.args.rows.now c.new-out.result c.new-out.ensures

pub loop-place-preserved : goal.loop-place-preserved
loop-place-preserved c =
    elim c.if-selects.branch [
      | then-selects+in_ok-add_copy w ↦ gathers_more (selects c.args.filter.now) c.args.rows.now c.loop-place.place c.loop-place.out c.loop-place.invariant c.entry_at-entry.result.now c.entry_at-entry.ensures c.if-selects.out (sym c.selects.ensures ∙ w.if-selects.true) (search rules)
      | else-selects w ↦ gathers_skip (selects c.args.filter.now) c.args.rows.now c.loop-place.place c.loop-place.out c.loop-place.invariant c.entry_at-entry.result.now c.entry_at-entry.ensures c.if-selects.out (sym c.selects.ensures ∙ w.if-selects.false) w.out-is
    ]

pub returns : goal.returns
returns c = gathers_all (selects c.args.filter.now) c.args.rows.now c.loop-place.place c.loop-place.out c.loop-place.invariant c.len-place-end.result c.len-place-end.ensures.value c.loop-place-test.false
