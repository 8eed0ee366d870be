-- The keys of the writes so far are entered.
use Rattle.std.proofs.Common.{◌≡◌, ◌<◌, ℕ, Some, slice_get}
use Rattle.pending_writes.specs.declared.writes.Write.{Write}
use Rattle.pending_writes.specs.Noting.{IsEntered, StayTold}
use Rattle.pending_writes.proofs.pending.enter_all.Given as goal

abbrev pub invariant-loop-write : goal.invariant-loop-write
invariant-loop-write l = record {
  told : StayTold l.fn.tables l.tables;
  entered : (i : ℕ) (w : Write) → i < l.write-index → slice_get l.writes i ≡ Some w → IsEntered l.tables w;
}
