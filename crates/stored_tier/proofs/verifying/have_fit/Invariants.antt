-- The rows so far fit.
use Rattle.std.proofs.Common.{◌≡◌, ◌<◌, ℕ, List, Some, slice_get, true}
use Rattle.std.specs.FinMap.{values}
use Rattle.row_types.specs.declared.value.Value.{Value}
use Rattle.table_state.specs.Tables.{fits_columns}
use Rattle.instances.specs.Views.{kept_at}
use Rattle.stored_tier.proofs.verifying.have_fit.Given as goal

abbrev pub invariant-loop-at : goal.invariant-loop-at
invariant-loop-at l =
    (i : ℕ) (row : List Value) → i < l.at → slice_get (values (kept_at l.store.tables l.place)) i ≡ Some row → fits_columns l.columns row ≡ true
