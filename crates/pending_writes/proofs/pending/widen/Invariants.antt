-- Each place more says nothing.
use Rattle.std.proofs.Common.{◌≤◌, length}
use Rattle.pending_writes.specs.Noting.{StayTold}
use Rattle.pending_writes.proofs.pending.widen.Given as goal

abbrev pub invariant-loop-place : goal.invariant-loop-place
invariant-loop-place l = record {
  told : StayTold l.fn.tables.items l.tables.items;
  long : l.place ≤ length l.tables.items;
}
