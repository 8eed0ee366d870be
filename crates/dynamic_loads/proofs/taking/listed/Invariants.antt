-- The lists so far.
use Rattle.std.proofs.Common.{◌≡◌, map, take}
use Rattle.std.specs.FinMap.{values}
use Rattle.dynamic_loads.proofs.taking.listed.Given as goal

abbrev pub invariant-loop-rows : goal.invariant-loop-rows
invariant-loop-rows l = l.lists.items ≡ map values (take l.rows-index l.tables)
