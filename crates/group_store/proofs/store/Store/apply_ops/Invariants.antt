use Rattle.std.proofs.Common.{◌≤◌, ◌+◌, length}
use Rattle.group_store.specs.Stores.{SameButSpare, ops_done}
use Rattle.group_store.proofs.store.Store.apply_ops.Given as goal

abbrev pub invariant-loop-op : goal.invariant-loop-op
invariant-loop-op l = record {
  done : SameButSpare (ops_done l.fn.ops l.fn.self) (ops_done l.op-iterator.rest.items l.self);
  room : length l.op-iterator.rest.items ≤ l.self.spare;
  spare : l.fn.self.spare + length l.op-iterator.rest.items ≤ l.self.spare + length l.fn.ops;
}
