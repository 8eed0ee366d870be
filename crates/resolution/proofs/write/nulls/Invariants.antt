-- A NULL for each column so far.
use Rattle.std.proofs.Common.{◌≡◌, take}
use Rattle.resolution.specs.Placing.{expressions_seen}
use Rattle.resolution.specs.Writes.{nulls}
use Rattle.resolution.proofs.write.nulls.Given as goal

abbrev pub invariant-loop-column : goal.invariant-loop-column
invariant-loop-column l = expressions_seen l.row.items ≡ nulls (take l._column-index l.columns)
