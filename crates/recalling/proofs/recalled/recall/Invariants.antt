-- What the entries so far leave.
use Rattle.std.proofs.Common.{◌≡◌, ◌++◌}
use Rattle.tier_journal.specs.Opening.{meanings}
use Rattle.recalling.proofs.FoldLaws.{IsFolded}
use Rattle.recalling.proofs.recalled.recall.Given as goal

abbrev pub invariant-loop-place : goal.invariant-loop-place
invariant-loop-place l = record {
  are : l.yielded ++ l.place-iterator.rest.items ≡ l.fn.records.items;
  folded : IsFolded l.schema l.fn.now.0 (meanings l.yielded) l.fold;
}
