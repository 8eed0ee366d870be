use Rattle.std.proofs.Common.{◌≡◌, ◌+◌, ◌≤◌, ◌++◌, length, take, drop, vec_capacity}
use Rattle.std.specs.List.{flat_map}
use Rattle.journal_entries.specs.Spelling.{entry_bytes}
use Rattle.journal_entries.proofs.writing.put_entries.Given as goal

abbrev pub invariant-loop-entry : goal.invariant-loop-entry
invariant-loop-entry l = record {
  items : l.out.items ≡ l.fn.out.items ++ flat_map entry_bytes (take l.entry-index l.entries);
  room : length l.out.items + length (flat_map entry_bytes (drop l.entry-index l.entries)) ≤ vec_capacity l.out;
  capacity : vec_capacity l.fn.out ≤ vec_capacity l.out;
}
