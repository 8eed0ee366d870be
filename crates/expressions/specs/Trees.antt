-- Expressions and conditions over the columns of a row, as clauses see them. (TimesTen SQL Reference, "Expressions" and
-- "Search conditions".)

use Rattle.std.specs.Prelude.{ℕ, ◌+◌, List}
use Rattle.row_types.specs.declared.value.Value.{Value}
use Rattle.expressions.specs.declared.condition.Comparator.{Comparator}
use Rattle.expressions.specs.declared.expression.Arithmetic.{Arithmetic}

-- an expression: a literal's value, the column at a place, an operation on two expressions
pub data Expr : Type 0 where
  Literal : Value → Expr
  Column : ℕ → Expr
  Binary : Arithmetic → Expr → Expr → Expr

-- a condition; BETWEEN is at least the second and at most the third, and IN equal to one of these
pub data Cond : Type 0 where
  Compared : Comparator → Expr → Expr → Cond
  IsNull : Expr → Cond
  Between : Expr → Expr → Expr → Cond
  In : Expr → List Expr → Cond
  Not : Cond → Cond
  And : Cond → Cond → Cond
  Or : Cond → Cond → Cond

abbrev pub nodes_of_expression : Expr → ℕ
nodes_of_expression (Literal value) = 1
nodes_of_expression (Column place) = 1
nodes_of_expression (Binary o a b) = nodes_of_expression a + nodes_of_expression b + 1

abbrev pub nodes_of_condition : Cond → ℕ
nodes_of_condition (Compared k a b) = 1
nodes_of_condition (IsNull a) = 1
nodes_of_condition (Between a low high) = 1
nodes_of_condition (In a list) = 1
nodes_of_condition (Not x) = nodes_of_condition x + 1
nodes_of_condition (And x y) = nodes_of_condition x + nodes_of_condition y + 1
nodes_of_condition (Or x y) = nodes_of_condition x + nodes_of_condition y + 1
