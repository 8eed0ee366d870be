-- The columns get fewer.
use Rattle.std.proofs.Common.{length}
use Rattle.evaluator.proofs.building.+first_refusing.Given as goal

abbrev pub decreases-first_refusing : goal.decreases-first_refusing
decreases-first_refusing g l = length l.columns.now
