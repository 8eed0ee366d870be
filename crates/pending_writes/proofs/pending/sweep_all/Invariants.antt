-- The writers that count are as they were.
use Rattle.pending_writes.specs.Noting.{AllStaySince}
use Rattle.pending_writes.proofs.pending.sweep_all.Given as goal

abbrev pub invariant-loop-op : goal.invariant-loop-op
invariant-loop-op l = AllStaySince l.fn.first.0 l.fn.tables l.tables
