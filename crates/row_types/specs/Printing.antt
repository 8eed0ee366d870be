-- How values and keys are printed. (This project's rule.)

use Rattle.std.specs.Prelude.{ℕ, List, [], ◌∷◌, ◌++◌, nat_eq, if◌then◌else◌, codes}
use Rattle.numbers.specs.NumberTexts.{printed_number}
use Rattle.std.specs.List.{flat_map}
use Rattle.row_types.specs.declared.value.Value.{Value}
use Rattle.row_types.specs.declared.value.Value.TheVariants.{Null, Number, Text, Time}
use Rattle.row_types.specs.TimeTexts.{time_text}

-- a byte of a text, a quote twice
abbrev pub doubled_quote : ℕ → List ℕ
doubled_quote b = if nat_eq b 39 then 39 ∷ 39 ∷ [] else b ∷ []

-- a text in single quotes, with each quote in it twice
abbrev pub quoted : List ℕ → List ℕ
quoted bytes = 39 ∷ flat_map doubled_quote bytes ++ 39 ∷ []

-- NULL as `NULL`, numbers in decimal with exactly the scale's digits behind the point, texts in single quotes, times as
-- `YYYY-MM-DD HH:MM:SS`
abbrev pub printed : Value → List ℕ
printed Null = codes "NULL"
printed (Number n) = printed_number n
printed (Text bytes) = quoted bytes
printed (Time seconds) = time_text seconds

-- a value that stands behind another
abbrev pub printed_behind : Value → List ℕ
printed_behind value = 124 ∷ printed value

-- the values of a key, with `|` between
abbrev pub printed_key : List Value → List ℕ
printed_key [] = []
printed_key (value ∷ more) = printed value ++ flat_map printed_behind more
