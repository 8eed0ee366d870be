-- The places get fewer.
use Rattle.std.proofs.Common.{length}
use Rattle.group_catalog.proofs.which.+take_all.Given as goal

abbrev pub decreases-take_all : goal.decreases-take_all
decreases-take_all l = length l.places.now
