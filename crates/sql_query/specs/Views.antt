-- The trees that clauses see, without the boxes and lists of the code: a chain is read from left to right.

use Rattle.std.specs.Prelude.{◌≤◌, List, [], ◌∷◌, length}
use Rattle.sql_query.specs.Trees.{ConditionTree, ExpressionTree}
use Rattle.sql_query.specs.Trees as tree
use Rattle.sql_query.specs.declared.condition.ConditionNode.{ConditionNode}
use Rattle.sql_query.specs.declared.condition.ConditionNode.TheVariants.{Compared, Missing, Between, Among, Not, All, Any}
use Rattle.sql_query.specs.declared.expression.ExpressionNode.{ExpressionNode}
use Rattle.sql_query.specs.declared.expression.ExpressionNode.TheVariants.{Literal, Column, Chain}
use Rattle.sql_query.specs.declared.expression.Link.{Link}

-- an expression, and then operations on it and an operand each
abbrev pub chained : ExpressionTree → List Link → ExpressionTree
chained e [] = e
chained e (link ∷ links) = chained (tree.Binary link.operation e link.operand) links

abbrev pub expression_of : ExpressionNode → ExpressionTree
expression_of (Literal literal) = tree.Constant literal
expression_of (Column name) = tree.Column name
expression_of (Chain first links) = chained first.value links.items

-- AND between a condition and each of the others
abbrev pub all_of : ConditionTree → List ConditionTree → ConditionTree
all_of c [] = c
all_of c (d ∷ ds) = all_of (tree.All c d) ds

-- OR between a condition and each of the others
abbrev pub any_of : ConditionTree → List ConditionTree → ConditionTree
any_of c [] = c
any_of c (d ∷ ds) = any_of (tree.Any c d) ds

abbrev pub condition_of : ConditionNode → ConditionTree
condition_of (Compared k a b) = tree.Compared k a b
condition_of (Missing negated a) = tree.Missing negated a
condition_of (Between negated a low high) = tree.Between negated a low high
condition_of (Among negated a list) = tree.Among negated a list
condition_of (Not x) = tree.Not x.value
condition_of (All first others) = all_of first.value others.items
condition_of (Any first others) = any_of first.value others.items

-- a chain has an operation
abbrev pub HasLinks : ExpressionNode → Type 0
HasLinks (Literal literal) = Unit {0}
HasLinks (Column name) = Unit {0}
HasLinks (Chain first links) = 1 ≤ length links.items

-- a list of conditions has two of them
abbrev pub HasOthers : ConditionNode → Type 0
HasOthers (Compared k a b) = Unit {0}
HasOthers (Missing negated a) = Unit {0}
HasOthers (Between negated a low high) = Unit {0}
HasOthers (Among negated a list) = Unit {0}
HasOthers (Not x) = Unit {0}
HasOthers (All first others) = 1 ≤ length others.items
HasOthers (Any first others) = 1 ≤ length others.items
