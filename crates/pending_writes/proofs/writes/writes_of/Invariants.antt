-- The operations so far.
use Rattle.std.proofs.Common.{◌≡◌, take}
use Rattle.table_state.specs.declared.footprint.RowKey.{RowKey}
use Rattle.pending_writes.specs.LastWriters.{last_left}
use Rattle.pending_writes.specs.Noting.{told_by}
use Rattle.pending_writes.proofs.writes.writes_of.Given as goal

abbrev pub invariant-loop-op : goal.invariant-loop-op
invariant-loop-op l = (k : RowKey) → told_by k l.writes.items ≡ last_left l.fn.schema k (take l.op-index l.fn.ops)
