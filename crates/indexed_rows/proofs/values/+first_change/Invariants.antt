-- The list gets shorter.
use Rattle.std.proofs.Common.{length}
use Rattle.indexed_rows.proofs.values.+first_change.Given as goal

abbrev pub decreases-first_change : goal.decreases-first_change
decreases-first_change l = length l.places.now
