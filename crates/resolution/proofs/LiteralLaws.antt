-- The value of a literal is of the family of its form.

use Rattle.std.proofs.Common.{◌≡◌, refl, subst, ℕ, List, [], ◌∷◌, Option, Some, None, Bool, true, false, if◌then◌else◌, length, ℤ}
use Rattle.std.specs.Prelude.{nat_le}
use Rattle.std.specs.Option.{option_map}
use Rattle.evaluator.specs.row_types.specs.declared.value.Value.{Value}
use Rattle.evaluator.specs.row_types.specs.declared.value.Value.TheVariants as value
use Rattle.sql_query.specs.numbers.specs.Decimals.{Decimal}
use Rattle.sql_query.specs.numbers.specs.NumberTexts.{number_read}
use Rattle.evaluator.specs.row_types.specs.Literals.{held_text}
use Rattle.evaluator.specs.row_types.specs.TimeTexts.{time_of}
use Rattle.evaluator.specs.expressions.specs.declared.typing.Family.{Family}
use Rattle.evaluator.specs.expressions.specs.declared.typing.Family.TheVariants.{Number, Characters, Datetime}
use Rattle.evaluator.specs.expressions.specs.Types.{family_of_value}
use Rattle.sql_query.specs.declared.literal.Literal.{Literal}
use Rattle.sql_query.specs.declared.literal.Literal.TheVariants as written
use Rattle.sql_query.specs.Literals.{signed_digits, value_of}
use Rattle.resolution.specs.Literals.{family_of_literal, family_of_text}

-- a value that is there is of the family
abbrev Held : Option Value → Option Family → Type 0
Held None family = Unit {0}
Held (Some v) family = family_of_value v ≡ family

held_if : (b : Bool) (v : Value) (family : Option Family) → family_of_value v ≡ family → Held (if b then Some v else None) family
held_if true v family e = e
held_if false v family e = tt

held_time : (o : Option ℤ) → Held (option_map value.Time o) (Some Datetime)
held_time None = tt
held_time (Some n) = refl

held_number : (o : Option Decimal) → Held (option_map value.Number o) (Some Number)
held_number None = tt
held_number (Some n) = refl

held_characters : (bytes : List ℕ) → Held (held_text bytes) (family_of_text bytes)
held_characters [] = refl
held_characters (b ∷ bytes) = held_if (nat_le (length (b ∷ bytes)) 4000) (value.Text (b ∷ bytes)) (Some Characters) refl

held : (literal : Literal) → Held (value_of literal) (family_of_literal literal)
held written.Null = refl
held (written.Number literal) = held_number (number_read (signed_digits literal))
held (written.Text bytes) = held_characters bytes
held (written.Time text) = held_time (time_of text)

pub family_of_held : (literal : Literal) (v : Value) → value_of literal ≡ Some v → family_of_value v ≡ family_of_literal literal
family_of_held literal v e = subst (λ o. Held o (family_of_literal literal)) e (held literal)
