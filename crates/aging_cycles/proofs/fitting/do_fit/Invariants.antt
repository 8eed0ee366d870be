-- The rows so far fit.
use Rattle.std.proofs.Common.{◌≡◌, true}
use Rattle.table_state.specs.Tables.{fits_columns}
use Rattle.aging_cycles.proofs.FitLaws.{AllBelow}
use Rattle.aging_cycles.proofs.fitting.do_fit.Given as goal

abbrev pub invariant-loop-row : goal.invariant-loop-row
invariant-loop-row l = AllBelow (λ i row. fits_columns l.columns row ≡ true) l.row-index l.rows
