use Rattle.std.proofs.Common.{arith, sym}
use Rattle.group_catalog.specs.Catalogs.{groups_in}
use Rattle.group_catalog.specs.Kept.{group_seen}
use Rattle.reopening.proofs.BuildingLaws.{all_hide, one_hides}
use Rattle.reopening.proofs.building.bare_hidden.Goals as goal

pub loop-place-preserved : goal.loop-place-preserved
loop-place-preserved c =
    one_hides c.args.schema.now (groups_in c.args.catalog.now) c.loop-place.place (group_seen c.in-Some.group.now) c.in_ok-rows.rows c.loop-place.hidden.items c.push.new.self.items
    (sym c.in-Some.ensures) c.in_ok-rows.ensures c.in_ok-push.ensures.items c.loop-place.invariant

pub returns : goal.returns
returns c =
    let past = c.loop-place-test.false in
    let long = c.len-place-end.ensures in
    all_hide c.args.schema.now (groups_in c.args.catalog.now) c.loop-place.place c.loop-place.hidden.items (omega (arith, past, long)) c.loop-place.invariant
