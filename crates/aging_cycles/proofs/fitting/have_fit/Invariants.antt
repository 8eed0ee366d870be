-- The rows so far fit.
use Rattle.std.proofs.Common.{◌≡◌, ◌<◌, ℕ, List, Some, slice_get, true}
use Rattle.std.specs.FinMap.{values}
use Rattle.row_types.specs.declared.value.Value.{Value}
use Rattle.table_state.specs.Tables.{fits_columns}
use Rattle.aging_cycles.proofs.fitting.have_fit.Given as goal

abbrev pub invariant-loop-place : goal.invariant-loop-place
invariant-loop-place l = (i : ℕ) (row : List Value) → i < l.place → slice_get (values l.rows) i ≡ Some row → fits_columns l.columns row ≡ true
