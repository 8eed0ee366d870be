use Rattle.std.proofs.Common.{◌≡◌, ◌≤◌, ◌+◌, drop, length}
use Rattle.std.specs.FinMap.{len, values}
use Rattle.group_store.specs.Stores.{SameButSpare, put_rows}
use Rattle.stored_tier.proofs.filling.fill_table.Given as goal

abbrev pub invariant-loop-at : goal.invariant-loop-at
invariant-loop-at l = record {
  same : SameButSpare (put_rows l.place (values l.rows) l.fn.store) (put_rows l.place (drop l.at (values l.rows)) l.store);
  room : len l.rows ≤ l.store.spare + l.at;
  long : length l.store.layers ≡ length l.fn.store.layers;
}
