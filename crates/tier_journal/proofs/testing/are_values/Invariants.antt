use Rattle.std.proofs.Common.{take}
use Rattle.std.specs.List.{AllByRecursion}
use Rattle.journal_entries.specs.Spelling.{IsValue}
use Rattle.tier_journal.proofs.testing.are_values.Given as goal

abbrev pub invariant-loop-value : goal.invariant-loop-value
invariant-loop-value l = AllByRecursion (IsValue 2) (take l.value-index l.values)
