-- The rows so far keep their order by parent.
use Rattle.store_bench.specs.Measured.{HasParentOrder}
use Rattle.store_bench.proofs.parents.measure_ordered.Given as goal

abbrev pub invariant-loop-place : goal.invariant-loop-place
invariant-loop-place l = HasParentOrder l.slots
