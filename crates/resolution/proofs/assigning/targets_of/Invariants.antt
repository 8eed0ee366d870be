-- The places so far, and the names that are left.
use Rattle.std.proofs.Common.{◌≡◌, [], drop}
use Rattle.resolution.specs.Assignments.{targets_behind}
use Rattle.resolution.proofs.assigning.targets_of.Given as goal

abbrev pub invariant-loop-name : goal.invariant-loop-name
invariant-loop-name l = targets_behind l.columns [] l.names ≡ targets_behind l.columns l.targets.items (drop l.name-index l.names)
