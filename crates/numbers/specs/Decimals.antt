-- Decimal numbers with a scale. (TimesTen SQL Reference, "NUMBER"; units of 64 signed bits and scales up to 18 are this
-- project's rule.)

use Rattle.std.specs.Prelude.{ℕ, ◌-◌, ◌^◌, ◌≤◌, nat_le, nat_lt, Bool, ◌&&◌, not, if◌then◌else◌, Option, Some, None, ℤ, pos, negsuc, int_lt, ◌*ℤ◌, ◌≤ℤ◌, unsigned_abs}
use Rattle.std.specs.Int.{int_div_euclid}
use Rattle.std.specs.Ordering.{int_cmp, on}
use Rattle.std.specs.declared.cmp.Ordering.{Ordering}

-- so many units at a scale: it stands for units / 10^scale
pub record Decimal : Type 0 where
  pub units : ℤ
  pub scale : ℕ

-- 64 signed bits hold these units
abbrev pub are_held : ℤ → Bool
are_held units = not (int_lt units (negsuc 9223372036854775807)) && not (int_lt (pos 9223372036854775807) units)

-- the decimal, where 64 signed bits hold its units and its scale is up to 18
abbrev pub number_of : ℤ → ℕ → Option Decimal
number_of units scale =
    if are_held units && nat_le scale 18 then Some (record { units = units; scale = scale }) else None

-- its units have at most so many digits
abbrev pub has_precision : ℕ → Decimal → Bool
has_precision precision number = nat_lt (unsigned_abs number.units) (10 ^ precision)

-- what every number keeps
pub record IsNumber (number : Decimal) : Type 0 where
  pub first : negsuc 9223372036854775807 ≤ℤ number.units
  pub last : number.units ≤ℤ pos 9223372036854775807
  pub scale : number.scale ≤ 18

-- the units of the same number at a scale that isn't below its own
abbrev pub units_at : ℕ → Decimal → ℤ
units_at scale number = number.units *ℤ pos (10 ^ (scale - number.scale))

-- the greatest whole number that isn't above it
abbrev pub floor_of : Decimal → ℤ
floor_of number = int_div_euclid (units_at 18 number) (pos (10 ^ 18))

-- the order of numbers: by what they stand for, as their units at the greatest scale tell
abbrev pub order_of_numbers : Decimal → Decimal → Ordering
order_of_numbers = on (units_at 18) int_cmp
