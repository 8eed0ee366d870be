-- WITH ID once its literals are read.

use Rattle.std.specs.Prelude.{List, [], ◌∷◌, Option, Some, None, Bool, true, false, ◌&&◌, if◌then◌else◌}
use Rattle.std.specs.Option.{option_and_then, option_map}
use Rattle.tier_base.specs.declared.code.Code.TheVariants as code
use Rattle.row_types.specs.declared.column.Column.{Column}
use Rattle.row_types.specs.declared.rule.Rule.{Rule}
use Rattle.row_types.specs.declared.value.Value.{Value}
use Rattle.expressions.specs.Types.{family_of_type, suits}
use Rattle.sql_query.specs.declared.literal.Literal.{Literal}
use Rattle.sql_query.specs.Literals.{value_of}
use Rattle.resolution.specs.Literals.{family_of_literal}
use Rattle.cache_tier.specs.Conditions.{same_value}
use Rattle.cache_tier.specs.Rules.{no_type, plain}

-- the values of literals; none where one has none
abbrev pub values_of : List Literal → Option (List Value)
values_of [] = Some []
values_of (literal ∷ literals) =
    option_and_then (λ value. option_map (λ values. value ∷ values) (values_of literals)) (value_of literal)

-- as many values, each equal to the other one
abbrev pub are_equal : List Value → List Value → Bool
are_equal [] [] = true
are_equal (a ∷ key) (b ∷ values) = same_value a (Some b) && are_equal key values
are_equal [] (b ∷ values) = false
are_equal (a ∷ key) [] = false

-- the key has these values; where there are none, each key does
abbrev pub is_given : List Value → Option (List Value) → Bool
is_given key None = true
is_given key (Some values) = are_equal key values

-- the column, where there is one, takes such a literal
abbrev pub takes_at : Option Column → Literal → Bool
takes_at None literal = true
takes_at (Some column) literal = suits (Some (family_of_type column.ty)) (family_of_literal literal)

-- 104 where the types don't suit, then 105 where no type holds some literal
abbrev pub judged_which : Bool → Bool → Option Rule
judged_which sound unheld =
    if sound then (if unheld then Some no_type else None) else Some (plain code.TypeMismatch)
