use Rattle.std.proofs.Common.{◌≡◌, map, take}
use Rattle.group_catalog.specs.Catalogs.{groups_in}
use Rattle.stored_tier.specs.Moments.{set_seen}
use Rattle.reopening.specs.Building.{sets_from}
use Rattle.reopening.proofs.building.begun_sets.Given as goal

abbrev pub invariant-loop-place : goal.invariant-loop-place
invariant-loop-place l = map set_seen l.sets.items ≡ sets_from l.opened (take l.place (groups_in l.catalog))
