-- The stores so far, and those that are left.
use Rattle.std.proofs.Common.{◌≡◌, ◌≤◌, ℕ, length, slice_get}
use Rattle.statement_uses.specs.Touching.{HaveRowsIn, newest_by, roomless_all, touched_by}
use Rattle.statement_uses.proofs.TouchLaws.{done_to}
use Rattle.statement_uses.proofs.touching.touch_stores.Given as goal

abbrev pub invariant-loop-place : goal.invariant-loop-place
invariant-loop-place l = record {
  touched : roomless_all l.stores.items ≡ done_to touched_by l.place l.uses (roomless_all l.fn.stores.items);
  newest : HaveRowsIn l.uses l.fn.stores.items → roomless_all l.stores.items ≡ done_to newest_by l.place l.uses (roomless_all l.fn.stores.items);
  later : (k : ℕ) → l.place ≤ k → slice_get l.stores.items k ≡ slice_get l.fn.stores.items k;
  long : length l.stores.items ≡ l.place-end;
  same : length l.fn.stores.items ≡ l.place-end;
}
