use Rattle.std.proofs.Common.{arith, map, sym}
use Rattle.group_catalog.specs.Catalogs.{groups_in}
use Rattle.group_catalog.specs.Kept.{group_seen}
use Rattle.stored_tier.specs.Moments.{set_seen}
use Rattle.reopening.proofs.BuildingLaws.{all_sets, set_next}
use Rattle.reopening.proofs.building.begun_sets.Goals as goal

pub loop-place-preserved : goal.loop-place-preserved
loop-place-preserved c =
    set_next c.args.opened (groups_in c.args.catalog.now) c.loop-place.place (group_seen c.in-Some.group.now) (map set_seen c.loop-place.sets.items) (map set_seen c.add_set.new.sets.items)
    (sym c.in-Some.ensures) c.in_ok-add_set.ensures c.loop-place.invariant

pub returns : goal.returns
returns c =
    let past = c.loop-place-test.false in
    let long = c.len-place-end.ensures in
    all_sets c.args.opened (groups_in c.args.catalog.now) c.loop-place.place (map set_seen c.loop-place.sets.items) (omega (arith, past, long)) c.loop-place.invariant
