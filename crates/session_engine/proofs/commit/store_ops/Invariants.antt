use Rattle.std.proofs.Common.{◌≡◌, length}
use Rattle.session_engine.specs.Committing.{HaveRoomFor, bare_all, ops_at}
use Rattle.session_engine.proofs.commit.store_ops.Given as goal

abbrev pub invariant-loop-op : goal.invariant-loop-op
invariant-loop-op l = record {
  done : ops_at l.directory l.op-iterator.rest.items (bare_all l.stores.items)
      ≡ ops_at l.directory l.fn.ops (bare_all l.fn.stores.items);
  room : HaveRoomFor (length l.op-iterator.rest.items) l.stores.items;
}
