-- Expressions and conditions as they are written, with the names of columns. (TimesTen SQL Reference, "Expressions" and
-- "Search conditions".)

use Rattle.std.specs.Prelude.{ℕ, ◌+◌, Bool, List}
use Rattle.expressions.specs.declared.condition.Comparator.{Comparator}
use Rattle.expressions.specs.declared.expression.Arithmetic.{Arithmetic}
use Rattle.sql_query.specs.declared.literal.Literal.{Literal}

-- an expression: a literal, a column, an operation on two expressions
pub data ExpressionTree : Type 0 where
  Constant : Literal → ExpressionTree
  Column : List ℕ → ExpressionTree
  Binary : Arithmetic → ExpressionTree → ExpressionTree → ExpressionTree

-- a condition; a truth value tells whether NOT is written inside, as in IS NOT NULL
pub data ConditionTree : Type 0 where
  Compared : Comparator → ExpressionTree → ExpressionTree → ConditionTree
  Missing : Bool → ExpressionTree → ConditionTree
  Between : Bool → ExpressionTree → ExpressionTree → ExpressionTree → ConditionTree
  Among : Bool → ExpressionTree → List ExpressionTree → ConditionTree
  Not : ConditionTree → ConditionTree
  All : ConditionTree → ConditionTree → ConditionTree
  Any : ConditionTree → ConditionTree → ConditionTree

abbrev pub nodes_of_expression : ExpressionTree → ℕ
nodes_of_expression (Constant literal) = 1
nodes_of_expression (Column name) = 1
nodes_of_expression (Binary o a b) = nodes_of_expression a + nodes_of_expression b + 1

abbrev pub nodes_of_condition : ConditionTree → ℕ
nodes_of_condition (Compared k a b) = 1
nodes_of_condition (Missing negated a) = 1
nodes_of_condition (Between negated a low high) = 1
nodes_of_condition (Among negated a list) = 1
nodes_of_condition (Not x) = nodes_of_condition x + 1
nodes_of_condition (All x y) = nodes_of_condition x + nodes_of_condition y + 1
nodes_of_condition (Any x y) = nodes_of_condition x + nodes_of_condition y + 1
