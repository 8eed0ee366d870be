-- The rule of types on what is written: comparisons are of two numbers, two texts, two times, or with NULL; arithmetic
-- is of numbers. (TimesTen SQL Reference, "Expressions" and "Comparison predicate"; without conversion, which is this
-- project's rule.)

use Rattle.std.specs.Prelude.{List, Option, Some, None, Bool, true, ◌&&◌, map, Result, Ok, slice_get}
use Rattle.std.specs.List.{list_all}
use Rattle.std.specs.Option.{option_and_then}
use Rattle.std.specs.Result.{is_ok}
use Rattle.evaluator.specs.tier_base.specs.declared.code.Code.{Code}
use Rattle.evaluator.specs.expressions.specs.Trees.{Cond}
use Rattle.evaluator.specs.expressions.specs.declared.typing.Family.{Family}
use Rattle.evaluator.specs.expressions.specs.Types.{agrees, has_sound_types, of_both}
use Rattle.sql_query.specs.Trees.{ConditionTree, ExpressionTree, Constant, Column, Binary, Compared, Missing, Between, Among, Not, All, Any}
use Rattle.resolution.specs.Literals.{family_of_literal}
use Rattle.resolution.specs.Scopes.{SeenColumn, families, place_in}

-- the family of an expression; none of NULL
abbrev pub written_family : List SeenColumn → ExpressionTree → Result (Option Family) Code
written_family scope (Constant literal) = Ok (family_of_literal literal)
written_family scope (Column name) = Ok (option_and_then (slice_get (families scope)) (place_in scope name))
written_family scope (Binary o a b) = of_both (written_family scope a) (written_family scope b)

-- the families of several expressions
abbrev pub written_families : List SeenColumn → List ExpressionTree → List (Result (Option Family) Code)
written_families scope es = map (written_family scope) es

-- the condition keeps the rule
abbrev pub is_sound : List SeenColumn → ConditionTree → Bool
is_sound scope (Compared k a b) = agrees (written_family scope a) (written_family scope b)
is_sound scope (Missing negated a) = is_ok (written_family scope a)
is_sound scope (Between negated a low high) =
    agrees (written_family scope a) (written_family scope low)
    && agrees (written_family scope a) (written_family scope high)
is_sound scope (Among negated a list) =
    is_ok (written_family scope a) && list_all (agrees (written_family scope a)) (written_families scope list)
is_sound scope (Not x) = is_sound scope x
is_sound scope (All x y) = is_sound scope x && is_sound scope y
is_sound scope (Any x y) = is_sound scope x && is_sound scope y

-- and so does the condition behind WHERE, where there is one
abbrev pub is_sound_filter : List SeenColumn → Option ConditionTree → Bool
is_sound_filter scope None = true
is_sound_filter scope (Some c) = is_sound scope c

-- the same of a condition with places in place of names
abbrev pub has_sound_filter : Option Cond → List Family → Bool
has_sound_filter None columns = true
has_sound_filter (Some c) columns = has_sound_types c columns
