-- The element that is carried belongs to the place that comes next.
use Rattle.std.proofs.Common.{◌≡◌, length}
use Rattle.std.specs.List.{insert}
use Rattle.long_list.proofs.chunks.Chunks.carry.Given as goal

abbrev pub invariant-loop-at : goal.invariant-loop-at
invariant-loop-at g l = record {
  count : length l.self ≡ length l.fn.self;
  same : insert l.self l.at l.carried ≡ insert l.fn.self l.place l.fn.carried;
}
