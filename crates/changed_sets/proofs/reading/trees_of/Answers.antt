use Rattle.std.proofs.Common.{◌∙◌, ◌+◌, None, ap, subst, sym, take}
use Rattle.group_catalog.specs.Catalogs.{groups_in}
use Rattle.group_catalog.specs.Kept.{group_seen}
use Rattle.stored_tier.specs.Refreshing.{choice_of, is_filled}
use Rattle.changed_sets.specs.Alike.{AllAlike}
use Rattle.changed_sets.specs.Since.{trees_of}
use Rattle.changed_sets.proofs.TreeSteps.{tree_more, tree_none, tree_passed}
use Rattle.changed_sets.proofs.reading.trees_of.Goals as goal
use Rattle.changed_sets.proofs.reading.trees_of.Goals.{in-None, in-Some+then-keeps_rows+in_ok-tree-in-Some+in_ok-push-in-Some, in-Some+else-keeps_rows}

pub loop-place-preserved : goal.loop-place-preserved
loop-place-preserved c =
    let filled = is_filled (choice_of c.args.chosen) None in
    let groups = groups_in c.args.catalog.now in
    let i = c.loop-place.place in
    elim c.match-get.branch [
      | in-None w ↦
          subst (λ v. AllAlike (trees_of filled 0 (take (i + 1) groups)) v.items) (sym w.trees-is)
          (tree_none filled groups i c.loop-place.trees.items (sym w.in-None.ensures) c.loop-place.invariant)
      | in-Some+then-keeps_rows+in_ok-tree-in-Some+in_ok-push-in-Some w ↦
          tree_more filled groups i (group_seen w.in-Some.group.now) c.loop-place.trees.items c.match-get.trees.items w.in_ok-tree-in-Some.tree (sym w.in-Some.ensures) (sym w.keeps_rows.ensures ∙ w.if-keeps_rows.true)
          c.loop-place.invariant (ap (λ v. v.items) w.trees-is ∙ w.in_ok-push-in-Some.ensures.items) w.in_ok-tree-in-Some.ensures
      | in-Some+else-keeps_rows w ↦
          subst (λ v. AllAlike (trees_of filled 0 (take (i + 1) groups)) v.items) (sym w.trees-is)
          (tree_passed filled groups i (group_seen w.in-Some.group.now) c.loop-place.trees.items (sym w.in-Some.ensures) (sym w.keeps_rows.ensures ∙ w.if-keeps_rows.false) c.loop-place.invariant)
    ]
