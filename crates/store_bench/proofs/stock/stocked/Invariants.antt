-- The rows so far fit the columns.
use Rattle.store_bench.specs.Measured.{HoldsTable}
use Rattle.store_bench.proofs.stock.stocked.Given as goal

abbrev pub invariant-loop-place : goal.invariant-loop-place
invariant-loop-place l = HoldsTable l.columns l.store
