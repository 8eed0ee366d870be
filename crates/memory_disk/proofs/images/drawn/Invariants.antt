use Rattle.std.proofs.Common.{◌≡◌, ◌-◌, ◌≤◌, ◌++◌, length}
use Rattle.std.specs.Prelude.{vec_capacity}
use Rattle.memory_disk.specs.Picking.{drawn}
use Rattle.memory_disk.proofs.images.drawn.Given as goal

abbrev pub invariant-loop-done : goal.invariant-loop-done
invariant-loop-done l = record {
  size : length l.bytes.items ≡ l.done;
  within : l.done ≤ l.count;
  room : l.count ≤ vec_capacity l.bytes;
  so_far : l.bytes.items ++ drawn l.x (l.count - l.done) ≡ drawn l.begun l.count;
}

abbrev pub decreases-loop-done : goal.decreases-loop-done
decreases-loop-done l = l.count - l.done
