-- The places get fewer.
use Rattle.std.proofs.Common.{length}
use Rattle.group_catalog.proofs.tables.+are_names_of.Given as goal

abbrev pub decreases-are_names_of : goal.decreases-are_names_of
decreases-are_names_of l = length l.places.now
