use Rattle.std.proofs.Common.{◌≡◌, length, take}
use Rattle.std.specs.List.{flat_map}
use Rattle.journal_entries.specs.Sizes.{capped}
use Rattle.journal_entries.specs.Spelling.{entry_bytes}
use Rattle.journal_entries.proofs.size.entries_size.Given as goal

abbrev pub invariant-loop-entry : goal.invariant-loop-entry
invariant-loop-entry l = l.size ≡ capped (length (flat_map entry_bytes (take l.entry-index l.entries)))
