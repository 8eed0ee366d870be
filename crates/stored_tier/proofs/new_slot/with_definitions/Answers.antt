use Rattle.std.proofs.Common.{◌∙◌, arith, refl, rules}
use Rattle.group_catalog.specs.Catalogs.{groups_in}
use Rattle.stored_tier.specs.NewSlots.{definition_entries}
use Rattle.stored_tier.proofs.NewSlotLaws.{adds_none, all_taken, definitions_step}
use Rattle.stored_tier.proofs.new_slot.with_definitions.Goals as goal

pub loop-place-init : goal.loop-place-init
loop-place-init c = (refl, adds_none c.args.batch)

pub loop-place-preserved : goal.loop-place-preserved
loop-place-preserved c =
    let same = c.loop-place.invariant.0 in (
      c.with_definition.ensures.same ∙ same,
      definitions_step (groups_in c.args.catalog.now) (groups_in c.loop-place.catalog) c.loop-place.place c.args.batch c.loop-place.batch _ (λ i. groups_in (same i)) (Prim.search rules) c.loop-place.invariant.1 c.in_ok-batch.ensures.adds,
    )

pub returns-clause-adds : goal.returns-clause-adds
returns-clause-adds c =
    let past = c.loop-place-test.false in
    let long = c.len-place-end.ensures in
    all_taken definition_entries (groups_in c.args.catalog.now) c.loop-place.place c.args.batch c.loop-place.batch (omega (arith, past, long)) c.loop-place.invariant.1

pub returns-clause-same : goal.returns-clause-same
returns-clause-same c = c.loop-place.invariant.0
