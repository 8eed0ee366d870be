use Rattle.std.proofs.Common.{Bool, List, ◌&&◌, ◌∙◌, option_copied, rules, sym}
use Rattle.expressions.specs.row_types.specs.declared.value.Value.{Value}
use Rattle.instances.specs.Views.{refers_to_one, selects}
use Rattle.instances.proofs.Gathering.{gathers_all, gathers_more, gathers_none, gathers_skip}
use Rattle.instances.proofs.collecting.referring_rows.Goals as goal
use Rattle.instances.proofs.collecting.referring_rows.Goals.{then-branch+in_ok-add_copy, else-branch}

pub loop-place-init : goal.loop-place-init
loop-place-init c = gathers_none (λ (row : List Value). selects c.args.filter.now row && refers_to_one c.args.parents.now (option_copied c.args.def) row) c.args.rows.now c.new-out.result c.new-out.ensures

pub loop-place-preserved : goal.loop-place-preserved
loop-place-preserved c =
    let test : List Value → Bool = λ row. selects c.args.filter.now row && refers_to_one c.args.parents.now (option_copied c.args.def) row in
    elim c.if-branch.branch [
      | then-branch+in_ok-add_copy w ↦ gathers_more test c.args.rows.now c.loop-place.place c.loop-place.out c.loop-place.invariant c.entry_at-entry.result.now c.entry_at-entry.ensures c.if-branch.out (sym c.in_ok-is_kept.ensures ∙ w.if-branch.true) (search rules)
      | else-branch w ↦ gathers_skip test c.args.rows.now c.loop-place.place c.loop-place.out c.loop-place.invariant c.entry_at-entry.result.now c.entry_at-entry.ensures c.if-branch.out (sym c.in_ok-is_kept.ensures ∙ w.if-branch.false) w.out-is
    ]

pub returns : goal.returns
returns c =
    gathers_all (λ (row : List Value). selects c.args.filter.now row && refers_to_one c.args.parents.now (option_copied c.args.def) row) c.args.rows.now c.loop-place.place c.loop-place.out c.loop-place.invariant c.len-place-end.result c.len-place-end.ensures.value c.loop-place-test.false
