use Rattle.std.proofs.Common.{◌+◌, ◌∙◌, ◌||◌, ap, drop, sym}
use Rattle.std.specs.List.{list_any}
use Rattle.group_catalog.specs.Catalogs.{groups_in}
use Rattle.group_catalog.specs.Kept.{group_seen}
use Rattle.stored_tier.specs.Refreshing.{is_shown_again}
use Rattle.stored_tier.proofs.FillSteps.{drop_one}
use Rattle.stored_tier.proofs.RefreshSteps.{stays_past}
use Rattle.reopening.proofs.reloading.is_some_viewed.Goals as goal
use Rattle.reopening.proofs.reloading.is_some_viewed.Goals.{in-None, in-Some+else-is_shown_again}

pub returns-then-is_shown_again : goal.returns-then-is_shown_again
returns-then-is_shown_again c =
    let groups = groups_in c.args.catalog.now in
    let rest = list_any is_shown_again (drop (c.loop-place.place + 1) groups) in
    sym (sym c.loop-place.invariant ∙ ap (list_any is_shown_again) (drop_one groups c.loop-place.place (group_seen c.in-Some.group.now) (sym c.in-Some.ensures))
    ∙ ap (λ b. b || rest) (sym c.if-is_shown_again.ensures))

pub loop-place-preserved : goal.loop-place-preserved
loop-place-preserved c =
    let groups = groups_in c.args.catalog.now in
    let rest = list_any is_shown_again (drop (c.loop-place.place + 1) groups) in
    elim c.match-get.branch [
      | in-None w ↦ stays_past (list_any is_shown_again) groups c.loop-place.place (sym w.in-None.ensures) ∙ c.loop-place.invariant
      | in-Some+else-is_shown_again w ↦
          sym (sym c.loop-place.invariant ∙ ap (list_any is_shown_again) (drop_one groups c.loop-place.place (group_seen w.in-Some.group.now) (sym w.in-Some.ensures))
          ∙ ap (λ b. b || rest) (sym w.if-is_shown_again.ensures))
    ]
