-- The steps so far are taken.
use Rattle.std.proofs.Common.{◌≡◌, Some, take}
use Rattle.table_state.specs.Histories.{state_from}
use Rattle.table_state.proofs.tables.Tables.run.Given as goal

abbrev pub invariant-loop-entry : goal.invariant-loop-entry
invariant-loop-entry l = state_from (take l.entry-index l.entries) l.fn.self ≡ Some l.self
