-- The list gets shorter.
use Rattle.std.proofs.Common.{length}
use Rattle.aging_cycles.proofs.fitting.+fit.Given as goal

abbrev pub decreases-fit : goal.decreases-fit
decreases-fit l = length l.columns.now
