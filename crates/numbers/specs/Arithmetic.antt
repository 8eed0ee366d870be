-- Exact arithmetic: none where 64 signed bits don't hold the units, or the scale passes 18. (TimesTen SQL Reference,
-- "Expressions"; exact results, or none, are this project's rule.)

use Rattle.std.specs.Prelude.{ℕ, ◌+◌, max, Option, ◌+ℤ◌, ◌-ℤ◌, ◌*ℤ◌}
use Rattle.numbers.specs.Decimals.{Decimal, number_of, units_at}

-- the greater scale
abbrev pub common_scale : Decimal → Decimal → ℕ
common_scale a b = max a.scale b.scale

abbrev pub sum_of : Decimal → Decimal → Option Decimal
sum_of a b = number_of (units_at (common_scale a b) a +ℤ units_at (common_scale a b) b) (common_scale a b)

abbrev pub difference_of : Decimal → Decimal → Option Decimal
difference_of a b = number_of (units_at (common_scale a b) a -ℤ units_at (common_scale a b) b) (common_scale a b)

-- its scale is the sum of the scales
abbrev pub product_of : Decimal → Decimal → Option Decimal
product_of a b = number_of (a.units *ℤ b.units) (a.scale + b.scale)
