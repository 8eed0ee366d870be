-- Laws of the values that columns keep.
use Rattle.std.proofs.Common.{◌≡◌, Result, Ok, Err, refl}
use Rattle.expressions.specs.tier_base.specs.declared.code.Code.{Code}
use Rattle.expressions.specs.row_types.specs.declared.value.Value.{Value}
use Rattle.expressions.specs.row_types.specs.Columns.{kept_if}
use Rattle.evaluator.specs.Writes.{done}

-- what is kept is what fits
pub done_kept : (fit : Result (Unit {0}) Code) (value : Value) → done (kept_if fit value) ≡ fit
done_kept (Ok u) value = refl
done_kept (Err e) value = refl
