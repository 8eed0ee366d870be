-- The values of literals. (TimesTen SQL Reference, "Constants", "Datetime literals" and "Null values": the text without
-- bytes is NULL. The ranges are this project's.)

use Rattle.std.specs.Prelude.{ℕ, List, ◌∷◌, Option, Some, if◌then◌else◌}
use Rattle.std.specs.Option.{option_map}
use Rattle.expressions.specs.row_types.specs.declared.value.Value.{Value}
use Rattle.expressions.specs.row_types.specs.declared.value.Value.TheVariants as value
use Rattle.expressions.specs.row_types.specs.Literals.{held_text, number_value}
use Rattle.expressions.specs.row_types.specs.TimeTexts.{time_of}
use Rattle.sql_query.specs.declared.literal.NumberLiteral.{NumberLiteral}
use Rattle.sql_query.specs.declared.literal.Literal.{Literal}
use Rattle.sql_query.specs.declared.literal.Literal.TheVariants.{Null, Number, Text, Time}

-- the digits, with a `-` before them where one stands there
abbrev pub signed_digits : NumberLiteral → List ℕ
signed_digits literal = if literal.negative then 45 ∷ literal.digits else literal.digits

-- NULL, a number, a text of up to 4,000 bytes, a time; none where no type holds the literal
abbrev pub value_of : Literal → Option Value
value_of Null = Some value.Null
value_of (Number literal) = number_value (signed_digits literal)
value_of (Text bytes) = held_text bytes
value_of (Time text) = option_map value.Time (time_of text)
