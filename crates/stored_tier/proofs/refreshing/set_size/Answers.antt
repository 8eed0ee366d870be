use Rattle.std.proofs.Common.{arith, sym}
use Rattle.cache_tier.specs.Sets.{is_in_set}
use Rattle.group_catalog.specs.Catalogs.{groups_in}
use Rattle.group_catalog.specs.Kept.{group_seen}
use Rattle.stored_tier.proofs.RefreshSteps.{counted_all, counted_in, counted_none, counted_out}
use Rattle.stored_tier.proofs.refreshing.set_size.Goals as goal
use Rattle.stored_tier.proofs.refreshing.set_size.Goals.{in-None, in-Some+then-is_in_set, in-Some+else-is_in_set}

pub loop-place-preserved : goal.loop-place-preserved
loop-place-preserved c =
    let few = c.loop-place.invariant.few in
    let groups = groups_in c.args.catalog.now in
    let test = is_in_set c.args.interval in
    let i = c.loop-place.place in
    let size = c.loop-place.size in
    elim c.match-get.branch [
      | in-None w ↦ record {
        few = let is = w.size-is in omega (arith, is, few);
        same = counted_none test groups i size c.match-get.size (sym w.in-None.ensures) w.size-is c.loop-place.invariant.same;
      }
      | in-Some+then-is_in_set w ↦ record {
        few = let is = w.size-is in omega (arith, is, few);
        same = counted_in test groups i size c.match-get.size (group_seen w.in-Some.group.now) (sym w.in-Some.ensures) (sym w.if-is_in_set.ensures) w.size-is c.loop-place.invariant.same;
      }
      | in-Some+else-is_in_set w ↦ record {
        few = let is = w.size-is in omega (arith, is, few);
        same = counted_out test groups i size c.match-get.size (group_seen w.in-Some.group.now) (sym w.in-Some.ensures) (sym w.if-is_in_set.ensures) w.size-is c.loop-place.invariant.same;
      }
    ]

pub returns : goal.returns
returns c =
    let past = c.loop-place-test.false in
    let long = c.len-place-end.ensures in
    counted_all (is_in_set c.args.interval) (groups_in c.args.catalog.now) c.loop-place.place c.loop-place.size (omega (arith, past, long)) c.loop-place.invariant.same
