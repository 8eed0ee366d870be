use Rattle.std.proofs.Common.{◌≡◌, length, take}
use Rattle.std.specs.List.{flat_map}
use Rattle.journal_entries.specs.Sizes.{capped}
use Rattle.journal_entries.specs.Spelling.{op_bytes}
use Rattle.journal_entries.proofs.size.ops_size.Given as goal

abbrev pub invariant-loop-op : goal.invariant-loop-op
invariant-loop-op l = l.size ≡ capped (length (flat_map op_bytes (take l.op-index l.ops)))
