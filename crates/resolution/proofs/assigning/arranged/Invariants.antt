-- The values so far stand in the row, and their columns are done with.
use Rattle.std.proofs.Common.{◌≡◌, drop, length}
use Rattle.resolution.specs.Assignments.{arranged}
use Rattle.resolution.specs.Placing.{expressions_seen}
use Rattle.resolution.proofs.assigning.arranged.Given as goal

abbrev pub invariant-loop-value : goal.invariant-loop-value
invariant-loop-value l = record {
  stands : expressions_seen l.row.items ≡ arranged (expressions_seen l.fn.row.items) l.targets (expressions_seen l.yielded);
  left : l.left ≡ drop (length l.yielded) l.targets;
}
