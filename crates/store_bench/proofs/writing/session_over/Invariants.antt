-- The operations so far apply one behind another.
use Rattle.store_bench.specs.Measured.{IsOver}
use Rattle.store_bench.proofs.writing.session_over.Given as goal

abbrev pub invariant-loop-place : goal.invariant-loop-place
invariant-loop-place g l = IsOver l.session (g.S.Scan.state l.scan)
