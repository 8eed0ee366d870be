-- The operations so far are applied, and the log takes them back.
use Rattle.std.proofs.Common.{◌≡◌, Some, take}
use Rattle.table_state.specs.Changes.{LeadsBack}
use Rattle.table_state.specs.Operations.{applied_all}
use Rattle.table_state.specs.Tables.{TableState}
use Rattle.backing_gate.proofs.difference.difference_in.Given as goal

abbrev pub invariant-loop-op : goal.invariant-loop-op
invariant-loop-op l = record {
  done : applied_all (take l.op-index l.ops) l.fn.tables ≡ Some l.tables;
  back : (s : TableState) → LeadsBack l.fn.log l.fn.tables s → LeadsBack l.log l.tables s;
}
