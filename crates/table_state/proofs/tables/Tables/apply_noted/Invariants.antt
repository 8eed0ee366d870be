-- The operations so far are applied, and the log takes them back.
use Rattle.std.proofs.Common.{◌≡◌, Some, take}
use Rattle.table_state.specs.Operations.{applied_all}
use Rattle.table_state.specs.Changes.{LeadsBack}
use Rattle.table_state.proofs.tables.Tables.apply_noted.Given as goal

abbrev pub invariant-loop-op : goal.invariant-loop-op
invariant-loop-op l = record {
  so_far : applied_all (take l.op-index l.ops) l.fn.self ≡ Some l.self;
  back : LeadsBack l.log l.self l.fn.self;
}
