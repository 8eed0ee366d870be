use Rattle.std.proofs.Common.{◌≡◌, ◌≤◌, ◌+◌, length}
use Rattle.group_store.specs.Stores.{SameButSpare, put_rows}
use Rattle.group_store.proofs.store.Store.put_rows.Given as goal

abbrev pub invariant-loop-row : goal.invariant-loop-row
invariant-loop-row l = record {
  done : SameButSpare (put_rows l.fn.place l.fn.rows l.fn.self) (put_rows l.fn.place l.row-iterator.rest.items l.self);
  layers : length l.self.layers ≡ length l.fn.self.layers;
  room : length l.row-iterator.rest.items ≤ l.self.spare;
  spare : l.fn.self.spare + length l.row-iterator.rest.items ≤ l.self.spare + length l.fn.rows;
}
