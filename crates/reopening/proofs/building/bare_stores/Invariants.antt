use Rattle.std.proofs.Common.{take}
use Rattle.group_catalog.specs.Catalogs.{groups_in}
use Rattle.reopening.specs.Building.{AreBare}
use Rattle.reopening.proofs.building.bare_stores.Given as goal

abbrev pub invariant-loop-place : goal.invariant-loop-place
invariant-loop-place l = AreBare l.schema (take l.place (groups_in l.catalog)) l.stores.items
