use Rattle.std.proofs.Common.{◌≡◌, ◌<◌, ◌≤◌, ℕ, Some, length, slice_get}
use Rattle.group_store.specs.Stores.{Kept}
use Rattle.session_engine.specs.Committing.{bare_all}
use Rattle.session_engine.proofs.commit.reserve_all.Given as goal

abbrev pub invariant-loop-number : goal.invariant-loop-number
invariant-loop-number l = record {
  same : bare_all l.stores.items ≡ bare_all l.fn.stores.items;
  long : length l.stores.items ≡ l.number-end;
  room : (k : ℕ) (s : Kept) → k < l.number → slice_get l.stores.items k ≡ Some s → l.more ≤ s.spare;
}
