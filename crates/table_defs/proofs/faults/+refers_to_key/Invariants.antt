-- The key gets shorter.
use Rattle.std.proofs.Common.{length}
use Rattle.table_defs.proofs.faults.+refers_to_key.Given as goal

abbrev pub decreases-refers_to_key : goal.decreases-refers_to_key
decreases-refers_to_key l = length l.places.now
