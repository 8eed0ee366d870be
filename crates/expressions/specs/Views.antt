-- The trees that clauses see, without the boxes and lists of the code: a chain is read from left to right.

use Rattle.std.specs.Prelude.{◌≤◌, List, [], ◌∷◌, length}
use Rattle.expressions.specs.Trees.{Cond, Expr}
use Rattle.expressions.specs.Trees as tree
use Rattle.expressions.specs.declared.condition.CondNode.{CondNode}
use Rattle.expressions.specs.declared.condition.CondNode.TheVariants.{Compared, IsNull, Between, In, Not, And, Or}
use Rattle.expressions.specs.declared.expression.ExprNode.{ExprNode}
use Rattle.expressions.specs.declared.expression.ExprNode.TheVariants.{Literal, Column, Chain}
use Rattle.expressions.specs.declared.expression.Step.{Step}

-- an expression, and then operations on it and an operand each
abbrev pub chained : Expr → List Step → Expr
chained e [] = e
chained e (step ∷ steps) = chained (tree.Binary step.operation e step.operand) steps

abbrev pub expression_of : ExprNode → Expr
expression_of (Literal value) = tree.Literal value
expression_of (Column place) = tree.Column place
expression_of (Chain first steps) = chained first.value steps.items

-- AND between a condition and each of the others
abbrev pub all_of : Cond → List Cond → Cond
all_of c [] = c
all_of c (d ∷ ds) = all_of (tree.And c d) ds

-- OR between a condition and each of the others
abbrev pub any_of : Cond → List Cond → Cond
any_of c [] = c
any_of c (d ∷ ds) = any_of (tree.Or c d) ds

abbrev pub condition_of : CondNode → Cond
condition_of (Compared k a b) = tree.Compared k a b
condition_of (IsNull a) = tree.IsNull a
condition_of (Between a low high) = tree.Between a low high
condition_of (In a list) = tree.In a list
condition_of (Not x) = tree.Not x.value
condition_of (And first others) = all_of first.value others.items
condition_of (Or first others) = any_of first.value others.items

-- a chain has an operation
abbrev pub HasSteps : ExprNode → Type 0
HasSteps (Literal value) = Unit {0}
HasSteps (Column place) = Unit {0}
HasSteps (Chain first steps) = 1 ≤ length steps.items

-- a list of conditions has two of them
abbrev pub HasOthers : CondNode → Type 0
HasOthers (Compared k a b) = Unit {0}
HasOthers (IsNull a) = Unit {0}
HasOthers (Between a low high) = Unit {0}
HasOthers (In a list) = Unit {0}
HasOthers (Not x) = Unit {0}
HasOthers (And first others) = 1 ≤ length others.items
HasOthers (Or first others) = 1 ≤ length others.items
