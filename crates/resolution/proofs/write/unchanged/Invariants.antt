-- The columns so far.
use Rattle.std.proofs.Common.{◌≡◌, map, take}
use Rattle.resolution.specs.Placing.{Column, expressions_seen}
use Rattle.resolution.proofs.write.unchanged.Given as goal

abbrev pub invariant-loop-place : goal.invariant-loop-place
invariant-loop-place l = expressions_seen l.row.items ≡ map Column (take l.place-index l.place-items)
