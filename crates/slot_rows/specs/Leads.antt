-- The lead of a key: a number that rises with the key's first value, so that two keys are mostly told apart by their
-- leads alone (this project's rule).
use Rattle.std.specs.Prelude.{ℕ, ℤ, pos, ◌+◌, ◌-◌, ◌^◌, min, List, [], ◌∷◌, int_lt, unsigned_abs, if◌then◌else◌}
use Rattle.std.specs.Ordering.{nat_cmp, ordering_then}
use Rattle.std.specs.declared.cmp.Ordering.{Ordering}
use Rattle.indexed_rows.specs.numbers.specs.Decimals.{floor_of}
use Rattle.indexed_rows.specs.row_types.specs.declared.value.Value.{Value}
use Rattle.indexed_rows.specs.row_types.specs.declared.value.Value.TheVariants.{Null, Number, Text, Time}

-- a whole number counted from far below 0; those that are further off have the bound on their side
abbrev pub near : ℤ → ℕ
near x = if int_lt x (pos 0) then 2 ^ 61 - min (unsigned_abs x) (2 ^ 61) else 2 ^ 61 + min (unsigned_abs x) (2 ^ 61 - 1)

-- numbers, then times, then texts, and NULL last, as in the order of values
abbrev pub lead : Value → ℕ
lead (Number x) = near (floor_of x)
lead (Time x) = 2 ^ 62 + near x
lead (Text x) = 2 ^ 63
lead Null = 2 ^ 64 - 1

-- the lead of a key is that of its first value
abbrev pub lead_of : List Value → ℕ
lead_of [] = 0
lead_of (value ∷ key) = lead value

-- leads decide where they differ
abbrev pub lead_first : ℕ → ℕ → Ordering → Ordering
lead_first a b order = ordering_then (nat_cmp a b) order
