-- The stores so far have room.
use Rattle.std.proofs.Common.{◌≡◌, ◌<◌, ℕ, length}
use Rattle.group_store.specs.Stores.{SameButSpare}
use Rattle.changed_sets.specs.Reading.{HasRoomAt}
use Rattle.changed_sets.specs.Showing.{Pairs}
use Rattle.changed_sets.proofs.room.make_room.Given as goal

abbrev pub invariant-loop-place : goal.invariant-loop-place
invariant-loop-place l = record {
  same : Pairs SameButSpare l.fn.stores.items l.stores.items;
  long : length l.stores.items ≡ length l.fn.stores.items;
  room : (k : ℕ) → k < l.place → HasRoomAt k l.patches l.stores.items;
}
