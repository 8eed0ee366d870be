-- The values of expressions: none where the units of a number leave 64 signed bits in any part, or its scale passes 18.
-- (TimesTen SQL Reference, "Expressions" and "Null values"; exact numbers are this project's rule.)

use Rattle.std.specs.Prelude.{◌≡◌, List, Option, Some, None, slice_get, unwrap_or}
use Rattle.std.specs.Option.{option_map}
use Rattle.row_types.specs.numbers.specs.Arithmetic.{difference_of, product_of, sum_of}
use Rattle.row_types.specs.numbers.specs.Decimals.{Decimal}
use Rattle.row_types.specs.tier_base.specs.declared.code.Code.TheVariants as code
use Rattle.row_types.specs.declared.rule.Detail.TheVariants as detail
use Rattle.row_types.specs.declared.rule.Refused.{Refused}
use Rattle.row_types.specs.declared.rule.Refused.TheVariants.{Rule, Memory}
use Rattle.row_types.specs.declared.value.Value.{Value}
use Rattle.row_types.specs.declared.value.Value.TheVariants.{Null, Number, Text, Time}
use Rattle.expressions.specs.declared.expression.Arithmetic.{Arithmetic}
use Rattle.expressions.specs.declared.expression.Arithmetic.TheVariants.{Plus, Minus, Times}
use Rattle.expressions.specs.Trees.{Expr, Literal, Column, Binary}

-- both sides are there
abbrev pub with_both : {A B C : Type 0} → (A → B → Option C) → Option A → Option B → Option C
with_both f (Some x) (Some y) = f x y
with_both f (Some x) None = None
with_both f None y = None

-- the operation on numbers
abbrev pub exact : Arithmetic → Decimal → Decimal → Option Decimal
exact Plus x y = sum_of x y
exact Minus x y = difference_of x y
exact Times x y = product_of x y

abbrev pub number_in : Value → Option Decimal
number_in Null = None
number_in (Number n) = Some n
number_in (Text bytes) = None
number_in (Time seconds) = None

-- NULL where a side is no number
abbrev pub calculated_with : Arithmetic → Option Decimal → Option Decimal → Option Value
calculated_with o (Some x) (Some y) = option_map Number (exact o x y)
calculated_with o (Some x) None = Some Null
calculated_with o None y = Some Null

abbrev pub calculated : Arithmetic → Value → Value → Option Value
calculated o a b = calculated_with o (number_in a) (number_in b)

-- the value of an expression on a row
abbrev pub eval : Expr → List Value → Option Value
eval (Literal value) row = Some value
eval (Column place) row = Some (unwrap_or (slice_get row place) Null)
eval (Binary o a b) row = with_both (calculated o) (eval a row) (eval b row)

-- the refusal is 120 and there is no value, or memory was wanting
abbrev pub IsOverflow : {A : Type 0} → Option A → Refused → Type 0
IsOverflow value (Rule rule) = (value ≡ None) × (rule ≡ record { code = code.Overflow; detail = detail.Nothing })
IsOverflow value Memory = Unit {0}
