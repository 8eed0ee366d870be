-- The changes of the operations so far, and of those that are left.
use Rattle.std.proofs.Common.{◌≡◌, ◌++◌, drop}
use Rattle.change_log.specs.Steps.{changes_of, of_tables}
use Rattle.change_log.proofs.logging.add_ops.Given as goal

abbrev pub invariant-loop-op : goal.invariant-loop-op
invariant-loop-op l = l.out.items ++ of_tables l.tables (changes_of l.schema (drop l.op-index l.ops)) ≡ l.fn.out.items ++ of_tables l.tables (changes_of l.schema l.ops)
