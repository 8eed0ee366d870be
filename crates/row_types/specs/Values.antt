-- The comparison of values. (TimesTen SQL Reference, "Comparison predicate" and "Null values".)

use Rattle.std.specs.Prelude.{Bool, true, false, ◌||◌, if◌then◌else◌}
use Rattle.std.specs.Ordering.{is_eq}
use Rattle.row_types.specs.declared.value.Value.{Value}
use Rattle.row_types.specs.declared.value.Value.TheVariants.{Null, Number, Text, Time}
use Rattle.row_types.specs.declared.truth.Truth.{Truth}
use Rattle.row_types.specs.declared.truth.Truth.TheVariants.{Unknown}
use Rattle.row_types.specs.Order.{value_order}
use Rattle.row_types.specs.Truths.{truth_of}

abbrev pub is_null : Value → Bool
is_null Null = true
is_null (Number n) = false
is_null (Text bytes) = false
is_null (Time seconds) = false

-- The operator =: True where both are equal, False where they differ, Unknown where a side is NULL. Numbers are equal
-- where they stand for the same. The other operators go by it and by the order.
abbrev pub comparison_of : Value → Value → Truth
comparison_of a b = if is_null a || is_null b then Unknown else truth_of (is_eq (value_order a b))
