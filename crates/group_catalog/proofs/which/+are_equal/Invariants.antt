-- The values get fewer.
use Rattle.std.proofs.Common.{length}
use Rattle.group_catalog.proofs.which.+are_equal.Given as goal

abbrev pub decreases-are_equal : goal.decreases-are_equal
decreases-are_equal l = length l.values.now
