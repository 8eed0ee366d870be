use Rattle.std.proofs.Common.{arith, sym}
use Rattle.group_catalog.specs.Catalogs.{groups_in}
use Rattle.group_catalog.specs.Kept.{group_seen}
use Rattle.stored_tier.specs.NewSlots.{state_entries}
use Rattle.stored_tier.proofs.NewSlotLaws.{adds_none, all_taken, states_next}
use Rattle.stored_tier.proofs.new_slot.with_states.Goals as goal

pub loop-place-init : goal.loop-place-init
loop-place-init c = adds_none c.args.batch

pub loop-place-preserved : goal.loop-place-preserved
loop-place-preserved c =
    states_next (groups_in c.args.catalog.now) c.loop-place.place (group_seen c.in-Some.group.now) c.args.batch c.loop-place.batch _ (sym c.in-Some.ensures) c.loop-place.invariant c.in_ok-batch.ensures

pub returns : goal.returns
returns c =
    let past = c.loop-place-test.false in
    let long = c.len-place-end.ensures in
    all_taken state_entries (groups_in c.args.catalog.now) c.loop-place.place c.args.batch c.loop-place.batch (omega (arith, past, long)) c.loop-place.invariant
