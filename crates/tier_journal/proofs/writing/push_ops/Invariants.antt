use Rattle.std.proofs.Common.{◌≡◌, ◌++◌, take}
use Rattle.std.specs.List.{flat_map}
use Rattle.journal_entries.specs.Spelling.{op_bytes}
use Rattle.tier_journal.specs.Writing.{written_op}
use Rattle.tier_journal.proofs.writing.push_ops.Given as goal

abbrev pub invariant-loop-op : goal.invariant-loop-op
invariant-loop-op l = l.out.items ≡ l.fn.out.items ++ flat_map (λ op. op_bytes (written_op l.schema op)) (take l.op-index l.ops)
