use Rattle.std.proofs.Common.{◌∙◌, ◌&&◌, ◌+◌, ap, drop, sym}
use Rattle.group_catalog.specs.Catalogs.{groups_in}
use Rattle.group_catalog.specs.Kept.{group_seen}
use Rattle.stored_tier.specs.Refreshing.{choice_of}
use Rattle.changed_sets.specs.Since.{are_ready_since}
use Rattle.changed_sets.proofs.SinceSteps.{drop_none, ready_here, ready_none}
use Rattle.changed_sets.proofs.since.are_ready_since.Goals as goal
use Rattle.changed_sets.proofs.since.are_ready_since.Goals.{in-None, in-Some+else-not-is_ready_since}

pub loop-place-init : goal.loop-place-init
loop-place-init c = ap (are_ready_since (choice_of c.args.chosen) c.args.since.0 0) (drop_none (groups_in c.args.catalog.now))

pub returns-then-not-is_ready_since : goal.returns-then-not-is_ready_since
returns-then-not-is_ready_since c =
    let i = c.loop-place.place in
    let groups = groups_in c.args.catalog.now in
    sym (sym c.loop-place.invariant
    ∙ ready_here (choice_of c.args.chosen) c.args.since.0 groups i (group_seen c.in-Some.group.now) (sym c.in-Some.ensures)
    ∙ ap (λ b. b && are_ready_since (choice_of c.args.chosen) c.args.since.0 (i + 1) (drop (i + 1) groups)) (sym c.is_ready_since.ensures ∙ c.if-not-is_ready_since.true))

pub loop-place-preserved : goal.loop-place-preserved
loop-place-preserved c =
    let i = c.loop-place.place in
    let groups = groups_in c.args.catalog.now in
    elim c.match-get.branch [
      | in-None w ↦ ready_none (choice_of c.args.chosen) c.args.since.0 groups i (sym w.in-None.ensures) ∙ c.loop-place.invariant
      | in-Some+else-not-is_ready_since w ↦
          ap (λ b. b && are_ready_since (choice_of c.args.chosen) c.args.since.0 (i + 1) (drop (i + 1) groups)) w.if-not-is_ready_since.ensures
          ∙ sym (ready_here (choice_of c.args.chosen) c.args.since.0 groups i (group_seen w.in-Some.group.now) (sym w.in-Some.ensures))
          ∙ c.loop-place.invariant
    ]
