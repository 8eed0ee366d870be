use Rattle.std.proofs.Common.{◌∙◌, ap, arith, sym}
use Rattle.stored_tier.proofs.RefreshSteps.{all_pushed, child_pushed, none_pushed}
use Rattle.stored_tier.proofs.refreshing.push_tables.Goals as goal
use Rattle.stored_tier.proofs.refreshing.push_tables.Goals.{in-None, in-Some+in_ok-push-in-Some}

pub loop-place-preserved : goal.loop-place-preserved
loop-place-preserved c =
    elim c.match-get.branch [
      | in-None w ↦ ap (λ v. v.items) w.tables-is ∙ none_pushed c.args.tree.now c.loop-place.place c.args.tables.now.items c.loop-place.tables.items (sym w.in-None.ensures) c.loop-place.invariant
      | in-Some+in_ok-push-in-Some w ↦ child_pushed c.args.tree.now c.loop-place.place w.in-Some.child.now c.args.tables.now.items c.loop-place.tables.items c.match-get.tables.items (sym w.in-Some.ensures) c.loop-place.invariant
          (ap (λ v. v.items) w.tables-is ∙ w.in_ok-push-in-Some.ensures.items)
    ]

pub returns : goal.returns
returns c =
    let past = c.loop-place-test.false in
    let long = c.len-place-end.ensures in
    all_pushed c.args.tree.now c.loop-place.place c.args.tables.now.items c.loop-place.tables.items (omega (arith, past, long)) c.loop-place.invariant
