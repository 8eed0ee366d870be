-- Numbers as texts. (TimesTen SQL Reference, "Constants"; that exactly the scale's digits are printed is this project's
-- rule.)

use Rattle.std.specs.Prelude.{ℕ, zero, suc, ◌+◌, ◌/◌, ◌%◌, ◌^◌, ◌==◌, nat_eq, nat_lt, Bool, true, false, ◌&&◌, not, if◌then◌else◌, List, [], ◌∷◌, ◌++◌, length, take, drop, slice_index, Option, None, ℤ, pos, negsuc, neg_ℤ}
use Rattle.std.specs.Fmt.{decimal}
use Rattle.std.specs.List.{list_all}
use Rattle.std.specs.Char.{is_ascii_digit}
use Rattle.std.specs.Str.Parse.{digits_value}
use Rattle.numbers.specs.Decimals.{Decimal, number_of}

-- the last digits of a number, so many of them
abbrev pub last_digits : ℕ → ℕ → List ℕ
last_digits zero n = []
last_digits (suc count) n = last_digits count (n / 10) ++ (48 + n % 10) ∷ []

-- a point and the digits behind it; nothing at scale 0
abbrev pub printed_fraction : ℕ → ℕ → List ℕ
printed_fraction zero n = []
printed_fraction (suc scale) n = 46 ∷ last_digits (suc scale) n

-- so many units at a scale, without a sign
abbrev pub printed_magnitude : ℕ → ℕ → List ℕ
printed_magnitude scale units = decimal (units / 10 ^ scale) ++ printed_fraction scale units

-- with a `-` before it
abbrev pub printed_units : ℕ → ℤ → List ℕ
printed_units scale (pos units) = printed_magnitude scale units
printed_units scale (negsuc units) = 45 ∷ printed_magnitude scale (suc units)

-- exactly the scale's digits behind the point, and no point at scale 0
abbrev pub printed_number : Decimal → List ℕ
printed_number number = printed_units number.scale number.units

-- a `-` first
abbrev pub is_negative : List ℕ → Bool
is_negative bytes = slice_index bytes 0 == 45

-- what stands behind it
abbrev pub unsigned : List ℕ → List ℕ
unsigned bytes = if is_negative bytes then drop 1 bytes else bytes

-- the place of the first point; the length where there is none
abbrev pub point_place : List ℕ → ℕ
point_place [] = 0
point_place (b ∷ bytes) = if nat_eq b 46 then 0 else suc (point_place bytes)

-- the digits before the point, and those behind it
abbrev pub whole_digits : List ℕ → List ℕ
whole_digits bytes = take (point_place bytes) bytes

abbrev pub fraction_digits : List ℕ → List ℕ
fraction_digits bytes = drop (point_place bytes + 1) bytes

-- one digit or more, and where a point stands behind them, one digit or more behind it
abbrev pub are_decimal_digits : List ℕ → Bool
are_decimal_digits bytes =
    nat_lt 0 (point_place bytes) && not (point_place bytes + 1 == length bytes)
    && list_all is_ascii_digit (whole_digits bytes) && list_all is_ascii_digit (fraction_digits bytes)

-- the units that they write
abbrev pub units_in : List ℕ → ℕ
units_in bytes = digits_value 10 (whole_digits bytes ++ fraction_digits bytes)

abbrev pub signed : Bool → ℕ → ℤ
signed true units = neg_ℤ (pos units)
signed false units = pos units

-- the number that a text writes: its scale is the number of digits behind its point; none of other texts, of more than
-- 18 digits behind the point and of units that 64 signed bits don't hold
abbrev pub number_read : List ℕ → Option Decimal
number_read bytes =
    if are_decimal_digits (unsigned bytes)
    then number_of (signed (is_negative bytes) (units_in (unsigned bytes))) (length (fraction_digits (unsigned bytes)))
    else None
