-- The lists so far.
use Rattle.std.proofs.Common.{◌≡◌, map, take}
use Rattle.std.specs.FinMap.{values}
use Rattle.changed_sets.proofs.preparing.listed.Given as goal

abbrev pub invariant-loop-rows : goal.invariant-loop-rows
invariant-loop-rows l = l.lists.items ≡ map values (take l.rows-index l.tables)
