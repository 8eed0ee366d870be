use Rattle.std.proofs.Common.{◌≡◌, ◌++◌, drop, length, take}
use Rattle.cache_tier.specs.DueWork.{with_number}
use Rattle.cache_engine.proofs.due_sets.put_number.Given as goal

abbrev pub invariant-loop-place : goal.invariant-loop-place
invariant-loop-place l = record {
  same : l.numbers ≡ l.fn.numbers;
  long : length l.fn.numbers.items ≡ l.place-end;
  put : with_number l.number l.fn.numbers.items ≡ take l.place l.fn.numbers.items ++ with_number l.number (drop l.place l.fn.numbers.items);
}
