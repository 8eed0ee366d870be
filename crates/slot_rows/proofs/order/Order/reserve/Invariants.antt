use Rattle.std.proofs.Common.{◌≡◌, ◌≤◌, length}
use Rattle.slot_rows.specs.Orders.{SameOrder}
use Rattle.slot_rows.proofs.order.Order.reserve.Given as goal

abbrev pub invariant-loop-at : goal.invariant-loop-at
invariant-loop-at l = record {
  is : l.at ≡ length l.self.room.items;
  kept : SameOrder l.fn.self l.self;
  most : length l.fn.self.room.items ≤ l.more → length l.self.room.items ≤ l.more;
}
