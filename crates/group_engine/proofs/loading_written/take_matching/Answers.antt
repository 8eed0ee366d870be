use Rattle.std.proofs.Common.{subst, sym}
use Rattle.group_engine.specs.Putting.{HasPlaceFor}
use Rattle.group_engine.proofs.TakeLaws.{not_gathered, place_for, place_within}
use Rattle.group_engine.proofs.loading_written.take_matching.Goals as goal

pub returns-in-Err : goal.returns-in-Err
returns-in-Err c = not_gathered c.args.tier.now c.args.place c.args.which.now c.args.refreshes c.args.tables.now c.in-Err.refused c.in-Err.ensures

pub fill_at-requires : goal.fill_at-requires
fill_at-requires c =
    subst (λ rows. HasPlaceFor c.args.place rows c.args.tier.now.stores.items) (sym c.into_rows.ensures)
    (place_for c.args.tier.now c.args.place c.args.which.now c.args.refreshes c.args.tables.now c.in-Ok.gathered c.requires c.in-Ok.ensures)

pub with_loaded-requires : goal.with_loaded-requires
with_loaded-requires c = place_within c.args.tier.now c.args.place c.args.which.now c.args.refreshes c.args.tables.now c.in-Ok.gathered c.in-Ok.ensures
