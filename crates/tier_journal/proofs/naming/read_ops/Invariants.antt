use Rattle.std.proofs.Common.{◌≡◌, take}
use Rattle.std.specs.List.{AllByRecursion}
use Rattle.tier_journal.specs.Writing.{IsOfSchema, written_ops}
use Rattle.tier_journal.proofs.naming.read_ops.Given as goal

abbrev pub invariant-loop-op : goal.invariant-loop-op
invariant-loop-op l = record {
  tables : AllByRecursion (IsOfSchema l.schema) l.read.items;
  are : written_ops l.schema l.read.items ≡ take l.op-index l.ops;
}
