-- The copies so far are those of the operations so far.
use Rattle.std.proofs.Common.{◌≡◌, take}
use Rattle.table_state.proofs.operation.copied_ops.Given as goal

abbrev pub invariant-loop-op : goal.invariant-loop-op
invariant-loop-op l = l.copies.items ≡ take l.op-index l.ops
