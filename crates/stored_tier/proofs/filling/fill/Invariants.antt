use Rattle.std.proofs.Common.{◌≡◌, drop, length, map}
use Rattle.std.specs.FinMap.{values}
use Rattle.group_store.specs.Stores.{SameButSpare, put_tables}
use Rattle.stored_tier.proofs.filling.fill.Given as goal

abbrev pub invariant-loop-place : goal.invariant-loop-place
invariant-loop-place l = record {
  same : SameButSpare (put_tables 0 (map values l.tables) l.fn.store) (put_tables l.place (map values (drop l.place l.tables)) l.store);
  long : length l.store.layers ≡ length l.fn.store.layers;
}
