-- So many have been looked at, and where none has left the store is as it was.
use Rattle.std.proofs.Common.{◌≡◌, false}
use Rattle.aging_cycles.proofs.ByTimeLaws.{Looked}
use Rattle.aging_cycles.proofs.by_time.leave_by_time.Given as goal

abbrev pub invariant-loop-looked : goal.invariant-loop-looked
invariant-loop-looked l = record {
  looked : Looked l.by.hides l.by.horizon l.by.column l.sessions l.looked l.initial.store l.store l.initial.hidden l.hidden;
  same : l.gone ≡ false → l.store ≡ l.initial.store;
}
