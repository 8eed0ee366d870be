use Rattle.std.proofs.Common.{◌≡◌, ◌++◌, drop, length, take}
use Rattle.stored_tier.specs.Refreshing.{moments_with}
use Rattle.stored_tier.proofs.refreshing.note_moment.Given as goal

abbrev pub invariant-loop-place : goal.invariant-loop-place
invariant-loop-place l = record {
  same : l.sets.items ≡ moments_with l.interval l.now (take l.place l.fn.sets.items) ++ drop l.place l.fn.sets.items;
  long : length l.sets.items ≡ l.place-end;
  was : length l.fn.sets.items ≡ l.place-end;
}
