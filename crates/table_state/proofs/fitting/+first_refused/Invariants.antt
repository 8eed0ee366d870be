-- The list gets shorter.
use Rattle.std.proofs.Common.{length}
use Rattle.table_state.proofs.fitting.+first_refused.Given as goal

abbrev pub decreases-first_refused : goal.decreases-first_refused
decreases-first_refused l = length l.columns.now
