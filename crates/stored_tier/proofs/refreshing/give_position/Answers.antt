use Rattle.std.proofs.Common.{◌∙◌, ap, arith, sym}
use Rattle.group_catalog.specs.Catalogs.{groups_in}
use Rattle.stored_tier.specs.Refreshing.{choice_of, positioned}
use Rattle.stored_tier.proofs.RefreshSteps.{chosen_within, position_given, position_kept, positions_begun, positions_end}
use Rattle.stored_tier.proofs.refreshing.give_position.Goals as goal
use Rattle.stored_tier.proofs.refreshing.give_position.Goals.{then-is_chosen_at, else-is_chosen_at}

pub loop-place-preserved : goal.loop-place-preserved
loop-place-preserved c =
    let now = groups_in c.loop-place.catalog in
    let was = groups_in c.args.catalog.now in
    let choice = choice_of c.args.chosen in
    let change = positioned c.args.position.0 in
    elim c.if-is_chosen_at.branch [
      | then-is_chosen_at w ↦ ap groups_in w.catalog-is ∙ w.with_position.ensures ∙ position_given choice change was now c.loop-place.place c.loop-place.invariant (sym c.is_chosen_at.ensures ∙ w.if-is_chosen_at.true)
      | else-is_chosen_at w ↦ ap groups_in w.catalog-is ∙ position_kept choice change was now c.loop-place.place c.loop-place.invariant (sym c.is_chosen_at.ensures ∙ w.if-is_chosen_at.false)
    ]

pub with_position-requires : goal.with_position-requires
with_position-requires c = chosen_within (choice_of c.args.chosen) (groups_in c.loop-place.catalog) c.loop-place.place (sym c.is_chosen_at.ensures ∙ c.if-is_chosen_at.true)

pub loop-place-init : goal.loop-place-init
loop-place-init c = positions_begun (choice_of c.args.chosen) (positioned c.args.position.0) (groups_in c.args.catalog.now)

pub returns : goal.returns
returns c =
    let past = c.loop-place-test.false in
    let long = c.len-place-end.ensures in
    c.loop-place.invariant ∙ positions_end (choice_of c.args.chosen) (positioned c.args.position.0) (groups_in c.args.catalog.now) c.loop-place.place (omega (arith, past, long))
