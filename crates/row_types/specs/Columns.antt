-- What a column holds. (TimesTen SQL Reference, "Type specifications".)

use Rattle.std.specs.Prelude.{ℕ, Bool, true, false, ◌&&◌, ◌==◌, not, ℤ, int_lt, nat_le, length, pos, negsuc, Option, Some, None, Result, Ok, Err, if◌then◌else◌}
use Rattle.std.specs.Option.{option_map}
use Rattle.numbers.specs.Decimals.{has_precision}
use Rattle.numbers.specs.Rounding.{rescaled_to, rounded_to}
use Rattle.tier_base.specs.declared.code.Code.{Code}
use Rattle.tier_base.specs.declared.code.Code.TheVariants.{NullNotAllowed, OutOfRange}
use Rattle.row_types.specs.declared.column.Column.{Column}
use Rattle.row_types.specs.declared.column.Ty.{Ty}
use Rattle.row_types.specs.declared.column.Ty.TheVariants as ty
use Rattle.row_types.specs.declared.value.Value.{Value}
use Rattle.row_types.specs.declared.value.Value.TheVariants.{Null, Number, Text, Time}

-- from the first to the last
abbrev pub is_within : ℤ → ℤ → ℤ → Bool
is_within first last n = not (int_lt n first) && not (int_lt last n)

-- the type holds the value; each holds NULL
abbrev pub holds : Ty → Value → Bool
holds t Null = true
holds ty.TtInteger (Number n) = n.scale == 0 && is_within (negsuc 2147483647) (pos 2147483647) n.units
holds ty.TtBigint (Number n) = n.scale == 0 && is_within (negsuc 9223372036854775807) (pos 9223372036854775807) n.units
holds (ty.Number precision scale) (Number n) = n.scale == scale && has_precision precision n
holds (ty.Varchar2 greatest) (Text bytes) = nat_le (length bytes) greatest
holds ty.Timestamp (Time seconds) = true
holds t value = false

-- the column takes the value, or why it doesn't
abbrev pub fit_of : Column → Value → Result (Unit {0}) Code
fit_of column Null = if column.not_null then Err NullNotAllowed else Ok tt
fit_of column value = if holds column.ty value then Ok tt else Err OutOfRange

-- the scale of the type's numbers; 0 of a type that has none
abbrev pub scale_of : Ty → ℕ
scale_of (ty.Number precision scale) = scale
scale_of t = 0

-- a number rounded to the type's scale, another value as it is; none where 64 signed bits don't hold the rounded number
abbrev pub rounded_for : Ty → Value → Option Value
rounded_for t (Number n) = option_map Number (rounded_to (scale_of t) n)
rounded_for t Null = Some Null
rounded_for t (Text bytes) = Some (Text bytes)
rounded_for t (Time seconds) = Some (Time seconds)

-- the value that fits, or why none does
abbrev pub kept_if : Result (Unit {0}) Code → Value → Result Value Code
kept_if (Ok done) value = Ok value
kept_if (Err code) value = Err code

-- a number with the type's scale, where one stands for the same; another value as it is
abbrev pub rescaled_for : Ty → Value → Option Value
rescaled_for t (Number n) = option_map Number (rescaled_to (scale_of t) n)
rescaled_for t Null = Some Null
rescaled_for t (Text bytes) = Some (Text bytes)
rescaled_for t (Time seconds) = Some (Time seconds)

-- the value where the column takes it
abbrev pub taken_by : Column → Option Value → Result Value Code
taken_by column None = Err OutOfRange
taken_by column (Some value) = kept_if (fit_of column value) value

-- the value as the column keeps it, or why it takes none: rounded, and then it is seen whether it fits
abbrev pub stored_in : Column → Value → Result Value Code
stored_in column value = taken_by column (rounded_for column.ty value)
