use Rattle.std.proofs.Common.{take}
use Rattle.std.specs.List.{AllByRecursion}
use Rattle.tier_journal.specs.Writing.{CanBeWritten}
use Rattle.tier_journal.proofs.testing.are_ops.Given as goal

abbrev pub invariant-loop-op : goal.invariant-loop-op
invariant-loop-op l = AllByRecursion (CanBeWritten l.schema) (take l.op-index l.ops)
