use Rattle.std.proofs.Common.{◌≡◌, ◌≤◌, length, drop}
use Rattle.backing_gate.specs.Marks.{least}
use Rattle.backing_gate.proofs.mark.least.Given as goal

abbrev pub invariant-loop-place : goal.invariant-loop-place
invariant-loop-place l = record {
  within : l.place ≤ length l.marks;
  so_far : l.mark ≡ least (drop l.place l.marks) l.fn.present;
}

abbrev pub decreases-loop-place : goal.decreases-loop-place
decreases-loop-place l = l.place
