use Rattle.std.proofs.Common.{◌∙◌, ◌+◌, None, ap, cond, drop, sym}
use Rattle.group_catalog.specs.Catalogs.{groups_in}
use Rattle.group_catalog.specs.Kept.{group_seen}
use Rattle.stored_tier.specs.Refreshing.{choice_of, is_filled}
use Rattle.changed_sets.specs.Since.{first_position}
use Rattle.changed_sets.proofs.SinceSteps.{drop_none, first_here, first_none}
use Rattle.changed_sets.proofs.since.first_position.Goals as goal
use Rattle.changed_sets.proofs.since.first_position.Goals.{in-None, in-Some+else-keeps_rows}

pub loop-place-init : goal.loop-place-init
loop-place-init c = ap (first_position (is_filled (choice_of c.args.chosen) None) 0) (drop_none (groups_in c.args.catalog.now))

pub returns-then-keeps_rows : goal.returns-then-keeps_rows
returns-then-keeps_rows c =
    let i = c.loop-place.place in
    let groups = groups_in c.args.catalog.now in
    let g = group_seen c.in-Some.group.now in
    sym (sym c.loop-place.invariant
    ∙ first_here (is_filled (choice_of c.args.chosen) None) groups i g (sym c.in-Some.ensures)
    ∙ ap (λ b. cond b g.position (first_position (is_filled (choice_of c.args.chosen) None) (i + 1) (drop (i + 1) groups))) (sym c.keeps_rows.ensures ∙ c.if-keeps_rows.true))

pub loop-place-preserved : goal.loop-place-preserved
loop-place-preserved c =
    let i = c.loop-place.place in
    let groups = groups_in c.args.catalog.now in
    elim c.match-get.branch [
      | in-None w ↦ first_none (is_filled (choice_of c.args.chosen) None) groups i (sym w.in-None.ensures) ∙ c.loop-place.invariant
      | in-Some+else-keeps_rows w ↦
          sym (first_here (is_filled (choice_of c.args.chosen) None) groups i (group_seen w.in-Some.group.now) (sym w.in-Some.ensures)
          ∙ ap (λ b. cond b (group_seen w.in-Some.group.now).position (first_position (is_filled (choice_of c.args.chosen) None) (i + 1) (drop (i + 1) groups))) (sym w.keeps_rows.ensures ∙ w.if-keeps_rows.false))
          ∙ c.loop-place.invariant
    ]
