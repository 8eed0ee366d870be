-- Literals and the values that they stand for. (TimesTen SQL Reference, "Constants", "Datetime literals" and "Null
-- values", where the text without bytes is NULL. The ranges are this project's.)

use Rattle.std.specs.Prelude.{ℕ, ◌-◌, ◌==◌, nat_eq, nat_le, Bool, ◌&&◌, if◌then◌else◌, List, [], ◌∷◌, ◌≡◌, length, codes, slice_index, slice_range, Option, Some, None}
use Rattle.std.specs.Option.{option_map, option_and_then}
use Rattle.std.specs.List.{starts_with}
use Rattle.std.specs.Cmp.Lexicographic.{pointwise}
use Rattle.tier_base.specs.declared.code.Code.TheVariants.{OutOfRange}
use Rattle.numbers.specs.NumberTexts.{number_read}
use Rattle.row_types.specs.declared.rule.Detail.TheVariants.{NoType}
use Rattle.row_types.specs.declared.rule.Refused.{Refused}
use Rattle.row_types.specs.declared.rule.Refused.TheVariants.{Rule, Memory}
use Rattle.row_types.specs.declared.value.Value.{Value}
use Rattle.row_types.specs.declared.value.Value.TheVariants.{Null, Number, Text, Time}
use Rattle.row_types.specs.TimeTexts.{time_of}

-- a number: digits, or digits, a point and up to 18 digits, with units that 64 signed bits hold
abbrev pub number_value : List ℕ → Option Value
number_value bytes = option_map Number (number_read bytes)

-- a quote at either end
abbrev pub is_quoted : List ℕ → Bool
is_quoted bytes = nat_le 2 (length bytes) && slice_index bytes 0 == 39 && slice_index bytes (length bytes - 1) == 39

-- the text that stands between them: two quotes are one of it, and one alone is none
unfoldable pub undoubled : List ℕ → Option (List ℕ)
undoubled [] = Some []
undoubled (b ∷ []) = if nat_eq b 39 then None else Some (b ∷ [])
undoubled (b ∷ c ∷ bytes) =
    if nat_eq b 39 then (if nat_eq c 39 then option_map (λ text. 39 ∷ text) (undoubled bytes) else None)
    else option_map (λ text. b ∷ text) (undoubled (c ∷ bytes))

-- a text of up to 4,000 bytes, and NULL where it has none
abbrev pub held_text : List ℕ → Option Value
held_text [] = Some Null
held_text (b ∷ text) = if nat_le (length (b ∷ text)) 4000 then Some (Text (b ∷ text)) else None

abbrev pub text_value : List ℕ → Option Value
text_value bytes = option_and_then held_text (undoubled (slice_range bytes 1 (length bytes - 1)))

-- TIMESTAMP, a blank and nineteen bytes in quotes
abbrev pub is_time_literal : List ℕ → Bool
is_time_literal bytes =
    length bytes == 31 && starts_with nat_eq bytes (codes "TIMESTAMP '") && slice_index bytes 30 == 39

abbrev pub time_value : List ℕ → Option Value
time_value bytes = option_map Time (time_of (slice_range bytes 11 30))

-- the value that a literal stands for; none where no type holds it, and of bytes that are no literal
abbrev pub value_of : List ℕ → Option Value
value_of bytes =
    if pointwise nat_eq bytes (codes "NULL") then Some Null
    else (if is_quoted bytes then text_value bytes
    else (if is_time_literal bytes then time_value bytes
    else number_value bytes))

-- why a literal is refused: it has no value, or memory was wanting
abbrev pub IsLiteralRefusal : List ℕ → Refused → Type 0
IsLiteralRefusal bytes (Rule rule) = (value_of bytes ≡ None) × (rule ≡ record { code = OutOfRange; detail = NoType })
IsLiteralRefusal bytes Memory = Unit {0}
