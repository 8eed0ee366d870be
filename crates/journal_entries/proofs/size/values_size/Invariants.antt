use Rattle.std.proofs.Common.{◌≡◌, length, take}
use Rattle.std.specs.List.{flat_map}
use Rattle.journal_entries.specs.Sizes.{capped}
use Rattle.journal_entries.specs.Spelling.{value_bytes}
use Rattle.journal_entries.proofs.size.values_size.Given as goal

abbrev pub invariant-loop-value : goal.invariant-loop-value
invariant-loop-value l = l.size ≡ capped (length (flat_map value_bytes (take l.value-index l.values)))
