-- Expressions and conditions with places in place of names, and what is made of those that are written: 103 of the
-- first name, in the order of the text, that fits no column or two.

use Rattle.std.specs.Prelude.{ℕ, List, [], ◌∷◌, Option, Some, None, Bool, true, false, map, Result, Ok}
use Rattle.evaluator.specs.row_types.specs.declared.rule.Rule.{Rule}
use Rattle.evaluator.specs.row_types.specs.declared.value.Value.{Value}
use Rattle.evaluator.specs.expressions.specs.declared.condition.Comparator.{Comparator}
use Rattle.evaluator.specs.expressions.specs.Trees.{Cond, Expr}
use Rattle.evaluator.specs.expressions.specs.Trees as node
use Rattle.evaluator.specs.expressions.specs.declared.expression.Arithmetic.{Arithmetic}
use Rattle.sql_query.specs.Trees.{ConditionTree, ExpressionTree}
use Rattle.sql_query.specs.Trees as tree
use Rattle.evaluator.specs.Rules.{then_do}
use Rattle.resolution.specs.Literals.{standing_for}
use Rattle.resolution.specs.Results.{both, then_make}
use Rattle.resolution.specs.Scopes.{SeenColumn, placed_column}

-- an expression with places in place of names
pub data PlacedExpression : Type 0 where
  Literal : Value → PlacedExpression
  Column : ℕ → PlacedExpression
  Binary : Arithmetic → PlacedExpression → PlacedExpression → PlacedExpression

-- a condition with places in place of names
pub data PlacedCondition : Type 0 where
  Compared : Comparator → PlacedExpression → PlacedExpression → PlacedCondition
  IsNull : PlacedExpression → PlacedCondition
  Between : PlacedExpression → PlacedExpression → PlacedExpression → PlacedCondition
  In : PlacedExpression → List PlacedExpression → PlacedCondition
  Not : PlacedCondition → PlacedCondition
  And : PlacedCondition → PlacedCondition → PlacedCondition
  Or : PlacedCondition → PlacedCondition → PlacedCondition

-- what the evaluator's expressions and conditions are, without their boxes
abbrev pub expression_seen : Expr → PlacedExpression
expression_seen (node.Literal value) = Literal value
expression_seen (node.Column place) = Column place
expression_seen (node.Binary o a b) = Binary o (expression_seen a) (expression_seen b)

-- the same of several
abbrev pub expressions_seen : List Expr → List PlacedExpression
expressions_seen es = map expression_seen es

-- the same of a condition
abbrev pub condition_seen : Cond → PlacedCondition
condition_seen (node.Compared k a b) = Compared k (expression_seen a) (expression_seen b)
condition_seen (node.IsNull a) = IsNull (expression_seen a)
condition_seen (node.Between a low high) = Between (expression_seen a) (expression_seen low) (expression_seen high)
condition_seen (node.In a es) = In (expression_seen a) (expressions_seen es)
condition_seen (node.Not x) = Not (condition_seen x)
condition_seen (node.And x y) = And (condition_seen x) (condition_seen y)
condition_seen (node.Or x y) = Or (condition_seen x) (condition_seen y)

-- the same of a condition behind WHERE, where there is one
abbrev pub filter_seen : Option Cond → Option PlacedCondition
filter_seen None = None
filter_seen (Some c) = Some (condition_seen c)

-- what is made of an expression that is written
abbrev pub placed_expression : List SeenColumn → ExpressionTree → Result PlacedExpression Rule
placed_expression scope (tree.Constant literal) = Ok (Literal (standing_for literal))
placed_expression scope (tree.Column name) = then_make Column (placed_column scope name)
placed_expression scope (tree.Binary o a b) = both (Binary o) (placed_expression scope a) (placed_expression scope b)

-- what is made of several, one after the other
abbrev pub placed_list : List SeenColumn → List ExpressionTree → Result (List PlacedExpression) Rule
placed_list scope [] = Ok []
placed_list scope (e ∷ es) = both (λ x xs. x ∷ xs) (placed_expression scope e) (placed_list scope es)

-- NOT, where it is wanted
abbrev pub negated_if : Bool → PlacedCondition → PlacedCondition
negated_if true c = Not c
negated_if false c = c

-- and of a condition: a NOT inside of it is a negation
abbrev pub placed_condition : List SeenColumn → ConditionTree → Result PlacedCondition Rule
placed_condition scope (tree.Compared k a b) = both (Compared k) (placed_expression scope a) (placed_expression scope b)
placed_condition scope (tree.Missing negated a) =
    then_make (λ x. negated_if negated (IsNull x)) (placed_expression scope a)
placed_condition scope (tree.Between negated a low high) =
    then_do (λ x. both (λ l h. negated_if negated (Between x l h)) (placed_expression scope low)
    (placed_expression scope high)) (placed_expression scope a)
placed_condition scope (tree.Among negated a list) =
    both (λ x xs. negated_if negated (In x xs)) (placed_expression scope a) (placed_list scope list)
placed_condition scope (tree.Not x) = then_make Not (placed_condition scope x)
placed_condition scope (tree.All x y) = both And (placed_condition scope x) (placed_condition scope y)
placed_condition scope (tree.Any x y) = both Or (placed_condition scope x) (placed_condition scope y)

-- and of the condition behind WHERE, where there is one
abbrev pub placed_filter : List SeenColumn → Option ConditionTree → Result (Option PlacedCondition) Rule
placed_filter scope None = Ok None
placed_filter scope (Some c) = then_make Some (placed_condition scope c)
