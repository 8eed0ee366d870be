-- The truth of conditions: none where an operand has no value, since every operand is evaluated. Numbers are compared
-- by what they stand for. (TimesTen SQL Reference, "Search conditions", "Comparison predicate", "BETWEEN predicate",
-- "IN predicate", "IS NULL predicate"; that every operand is evaluated is this project's rule.)

use Rattle.std.specs.Prelude.{List, [], ◌∷◌, Option, Some, None, Bool, ◌||◌, not, if◌then◌else◌}
use Rattle.std.specs.Option.{option_map}
use Rattle.std.specs.Ordering.{is_eq, is_lt, is_gt}
use Rattle.std.specs.declared.cmp.Ordering.{Ordering}
use Rattle.row_types.specs.declared.truth.Truth.{Truth}
use Rattle.row_types.specs.declared.truth.Truth.TheVariants.{False, Unknown}
use Rattle.row_types.specs.declared.value.Value.{Value}
use Rattle.row_types.specs.Order.{value_order}
use Rattle.row_types.specs.Values.{is_null}
use Rattle.row_types.specs.Truths.{both, either, negation, truth_of}
use Rattle.expressions.specs.Expressions.{with_both, eval}
use Rattle.expressions.specs.declared.condition.Comparator.{Comparator}
use Rattle.expressions.specs.declared.condition.Comparator.TheVariants as is
use Rattle.expressions.specs.Trees.{Cond, Expr}
use Rattle.expressions.specs.Trees as cond

-- the operator stands between values of this order
abbrev pub stands : Comparator → Ordering → Bool
stands is.Equal o = is_eq o
stands is.NotEqual o = not (is_eq o)
stands is.Less o = is_lt o
stands is.AtMost o = not (is_gt o)
stands is.Greater o = is_gt o
stands is.AtLeast o = not (is_lt o)

-- by the order of what values stand for, unknown where a side is NULL
abbrev pub compared : Comparator → Value → Value → Truth
compared k a b = if is_null a || is_null b then Unknown else truth_of (stands k (value_order a b))

abbrev pub comparison : Comparator → Option Value → Option Value → Option Truth
comparison k = with_both (λ a b. Some (compared k a b))

abbrev pub both_hold : Option Truth → Option Truth → Option Truth
both_hold = with_both (λ a b. Some (both a b))

abbrev pub one_holds : Option Truth → Option Truth → Option Truth
one_holds = with_both (λ a b. Some (either a b))

-- equal to one of these
abbrev pub among : Value → List Expr → List Value → Option Truth
among a [] row = Some False
among a (e ∷ es) row = one_holds (comparison is.Equal (Some a) (eval e row)) (among a es row)

abbrev pub among_of : Option Value → List Expr → List Value → Option Truth
among_of None es row = None
among_of (Some a) es row = among a es row

-- the truth of a condition on a row
abbrev pub holds : Cond → List Value → Option Truth
holds (cond.Compared k a b) row = comparison k (eval a row) (eval b row)
holds (cond.IsNull a) row = option_map (λ v. truth_of (is_null v)) (eval a row)
holds (cond.Between a low high) row =
    both_hold (comparison is.AtLeast (eval a row) (eval low row)) (comparison is.AtMost (eval a row) (eval high row))
holds (cond.In a es) row = among_of (eval a row) es row
holds (cond.Not x) row = option_map negation (holds x row)
holds (cond.And x y) row = both_hold (holds x row) (holds y row)
holds (cond.Or x y) row = one_holds (holds x row) (holds y row)
