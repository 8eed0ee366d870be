-- The orders of values and keys: numbers and times by size, texts by bytes, NULL last. (TimesTen SQL Reference,
-- "ORDER BY" and "Null values"; the order between types is this project's.)

use Rattle.std.specs.Prelude.{ℕ, ℤ, pos, List, []}
use Rattle.std.specs.Ordering.{nat_cmp, int_cmp, then_cmp, on}
use Rattle.std.specs.Cmp.Lexicographic.{slice_cmp}
use Rattle.std.specs.declared.cmp.Ordering.{Ordering}
use Rattle.numbers.specs.Decimals.{units_at}
use Rattle.row_types.specs.declared.value.Value.{Value}
use Rattle.row_types.specs.declared.value.Value.TheVariants.{Null, Number, Text, Time}

-- numbers, then times, then texts, and NULL last
abbrev pub rank : Value → ℕ
rank (Number x) = 0
rank (Time x) = 1
rank (Text x) = 2
rank Null = 3

-- numbers by their units at the greatest scale
abbrev pub number_in : Value → ℤ
number_in (Number x) = units_at 18 x
number_in (Time x) = x
number_in (Text x) = pos 0
number_in Null = pos 0

abbrev pub text_in : Value → List ℕ
text_in (Number x) = []
text_in (Time x) = []
text_in (Text x) = x
text_in Null = []

abbrev pub scale_in : Value → ℕ
scale_in (Number x) = x.scale
scale_in (Time x) = 0
scale_in (Text x) = 0
scale_in Null = 0

-- the order of what values stand for, by which conditions go
abbrev pub value_order : Value → Value → Ordering
value_order = then_cmp (on rank nat_cmp) (then_cmp (on number_in int_cmp) (on text_in (slice_cmp nat_cmp)))

-- the order of keys and rows: and then by scale, so that only the same values are equal
abbrev pub order_of : Value → Value → Ordering
order_of = then_cmp value_order (on scale_in nat_cmp)

-- the order of keys: by the first values that differ
abbrev pub key_order : List Value → List Value → Ordering
key_order = slice_cmp order_of
