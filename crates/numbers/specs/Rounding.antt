-- Rounding to a scale, half away from zero. (TimesTen SQL Reference, "NUMBER"; the half away from zero is this
-- project's rule.)

use Rattle.std.specs.Prelude.{ℕ, ◌+◌, ◌-◌, ◌/◌, ◌^◌, nat_le, if◌then◌else◌, Option, Some, None, ℤ, pos, negsuc, neg_ℤ, suc}
use Rattle.std.specs.Option.{option_and_then}
use Rattle.std.specs.Ordering.{is_eq}
use Rattle.numbers.specs.Decimals.{Decimal, number_of, order_of_numbers, units_at}

-- the nearest whole number to units / parts, for parts that are a power of ten, and the one farther from zero where two
-- are as near
abbrev pub nearest : ℤ → ℕ → ℤ
nearest (pos units) parts = pos ((units + parts / 2) / parts)
nearest (negsuc units) parts = neg_ℤ (pos ((suc units + parts / 2) / parts))

-- the number nearest to it with this scale; none where 64 signed bits don't hold its units, or the scale passes 18
abbrev pub rounded_to : ℕ → Decimal → Option Decimal
rounded_to scale number =
    if nat_le number.scale scale then number_of (units_at scale number) scale
    else number_of (nearest number.units (10 ^ (number.scale - scale))) scale

-- the number itself with this scale; none where there is none
abbrev pub rescaled_to : ℕ → Decimal → Option Decimal
rescaled_to scale number =
    option_and_then (λ rounded. if is_eq (order_of_numbers rounded number) then Some rounded else None)
    (rounded_to scale number)
