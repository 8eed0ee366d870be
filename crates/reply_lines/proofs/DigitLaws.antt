-- The last digits of a number.
use Rattle.std.proofs.Common.{◌≡◌, ℕ, zero, suc, ◌+◌, ◌-◌, ◌<◌, ◌/◌, ◌%◌, [], ◌∷◌, ◌++◌, arith}
use Rattle.numbers.specs.NumberTexts.{last_digits}

pub last_digits_more : (count n : ℕ) → 0 < count → last_digits count n ≡ last_digits (count - 1) (n / 10) ++ (48 + n % 10) ∷ []
last_digits_more zero n some = absurd (omega arith)
last_digits_more (suc count) n some = let less : suc count - 1 ≡ count = omega arith in rw less
