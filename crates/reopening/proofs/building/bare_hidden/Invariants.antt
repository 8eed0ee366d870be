use Rattle.std.proofs.Common.{take}
use Rattle.group_catalog.specs.Catalogs.{groups_in}
use Rattle.reopening.specs.Building.{HideNone}
use Rattle.reopening.proofs.building.bare_hidden.Given as goal

abbrev pub invariant-loop-place : goal.invariant-loop-place
invariant-loop-place l = HideNone l.schema (take l.place (groups_in l.catalog)) l.hidden.items
