-- So many have been looked at, and where none has left the store is as it was.
use Rattle.std.proofs.Common.{◌≡◌, false}
use Rattle.aging_cycles.proofs.ByUseLaws.{Walked}
use Rattle.aging_cycles.proofs.by_use.leave_oldest.Given as goal

abbrev pub invariant-loop-looked : goal.invariant-loop-looked
invariant-loop-looked l = record {
  walked : Walked l.sessions l.most l.left l.looked l.initial.store l.store l.next;
  same : l.gone ≡ false → l.store ≡ l.initial.store;
}
