-- Literals before it is known whether a type holds them. (This project's rules: NULL and the empty text have no type; a
-- literal that no type holds is refused in the end, and has the type of its form until then.)

use Rattle.std.specs.Prelude.{ℕ, List, [], ◌∷◌, Option, Some, None, Bool, false, ◌||◌, unwrap_or, pos}
use Rattle.std.specs.List.{list_any}
use Rattle.std.specs.Option.{is_none}
use Rattle.evaluator.specs.row_types.specs.declared.value.Value.{Value}
use Rattle.evaluator.specs.row_types.specs.declared.value.Value.TheVariants as value
use Rattle.evaluator.specs.expressions.specs.declared.typing.Family.{Family}
use Rattle.evaluator.specs.expressions.specs.declared.typing.Family.TheVariants.{Number, Characters, Datetime}
use Rattle.sql_query.specs.declared.literal.Literal.{Literal}
use Rattle.sql_query.specs.declared.literal.Literal.TheVariants as written
use Rattle.sql_query.specs.Literals.{value_of}
use Rattle.sql_query.specs.Trees.{ConditionTree, ExpressionTree, Constant, Column, Binary, Compared, Missing, Between, Among, Not, All, Any}

-- the text without bytes has no family
abbrev pub family_of_text : List ℕ → Option Family
family_of_text [] = None
family_of_text (b ∷ bytes) = Some Characters

-- the family of a literal by its form
abbrev pub family_of_literal : Literal → Option Family
family_of_literal written.Null = None
family_of_literal (written.Number literal) = Some Number
family_of_literal (written.Text bytes) = family_of_text bytes
family_of_literal (written.Time text) = Some Datetime

-- some value of the family
abbrev pub any_of : Option Family → Value
any_of None = value.Null
any_of (Some Number) = value.Number (record { units = pos 0; scale = 0 })
any_of (Some Characters) = value.Text (63 ∷ [])
any_of (Some Datetime) = value.Time (pos 0)

-- its value, or another one of its family where no type holds it
abbrev pub standing_for : Literal → Value
standing_for literal = unwrap_or (value_of literal) (any_of (family_of_literal literal))

-- no type holds some literal of the expression
abbrev pub has_unheld : ExpressionTree → Bool
has_unheld (Constant literal) = is_none (value_of literal)
has_unheld (Column name) = false
has_unheld (Binary o a b) = has_unheld a || has_unheld b

-- no type holds some literal of the expressions
abbrev pub some_unheld : List ExpressionTree → Bool
some_unheld es = list_any has_unheld es

-- or of the condition
abbrev pub unheld_within : ConditionTree → Bool
unheld_within (Compared k a b) = has_unheld a || has_unheld b
unheld_within (Missing negated a) = has_unheld a
unheld_within (Between negated a low high) = has_unheld a || has_unheld low || has_unheld high
unheld_within (Among negated a list) = has_unheld a || some_unheld list
unheld_within (Not x) = unheld_within x
unheld_within (All x y) = unheld_within x || unheld_within y
unheld_within (Any x y) = unheld_within x || unheld_within y

-- or of the condition behind WHERE, where there is one
abbrev pub unheld_in_filter : Option ConditionTree → Bool
unheld_in_filter None = false
unheld_in_filter (Some c) = unheld_within c
