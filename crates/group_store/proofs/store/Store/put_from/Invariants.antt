use Rattle.std.proofs.Common.{◌≡◌, ◌<◌, ◌≤◌, ◌+◌, ◌^◌, length}
use Rattle.group_store.specs.Stores.{SameButSpare, count_all, put_tables}
use Rattle.group_store.proofs.store.Store.put_from.Given as goal

abbrev pub invariant-loop-rows : goal.invariant-loop-rows
invariant-loop-rows l = record {
  done : SameButSpare (put_tables l.fn.place l.fn.tables.items l.fn.self) (put_tables l.place l.rows-iterator.rest.items l.self);
  layers : length l.self.layers ≡ length l.fn.self.layers;
  within : l.place + length l.rows-iterator.rest.items ≤ length l.fn.self.layers + 1;
  fits : l.place + length l.rows-iterator.rest.items < 2 ^ 64;
  room : count_all l.rows-iterator.rest.items ≤ l.self.spare;
  spare : l.fn.self.spare + count_all l.rows-iterator.rest.items ≤ l.self.spare + count_all l.fn.tables.items;
}
