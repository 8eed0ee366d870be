-- The list gets shorter.
use Rattle.std.proofs.Common.{length}
use Rattle.indexed_rows.proofs.values.+has_key.Given as goal

abbrev pub decreases-has_key : goal.decreases-has_key
decreases-has_key l = length l.places.now
