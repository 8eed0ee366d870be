-- No part is deeper than the whole. No contract speaks of it.

use Rattle.std.specs.Prelude.{◌≤◌, max}
use Rattle.std.proofs.Common.{arith}
use Rattle.expressions.specs.ChainSizes.{length_le-all_of, length_le-any_of, length_le-chained, most_le-all_of, most_le-any_of, most_le-chained}
use Rattle.expressions.specs.Trees.{nodes_of_condition, nodes_of_expression}
use Rattle.expressions.specs.Views.{HasOthers, HasSteps, condition_of, expression_of}
use Rattle.expressions.specs.declared.condition.Cond.TheDeep.{deep-CondNode}
use Rattle.expressions.specs.declared.condition.CondNode.{CondNode}
use Rattle.expressions.specs.declared.condition.CondNode.TheVariants.{Compared, IsNull, Between, In, Not, And, Or}
use Rattle.expressions.specs.declared.expression.Expr.TheDeep.{deep-ExprNode}
use Rattle.expressions.specs.declared.expression.ExprNode.{ExprNode}
use Rattle.expressions.specs.declared.expression.ExprNode.TheVariants.{Literal, Column, Chain}

pub depth_le-expression : (n : ExprNode) → HasSteps n
    → max (deep-ExprNode n) 0 ≤ nodes_of_expression (expression_of n)
depth_le-expression (Literal value) h = omega arith
depth_le-expression (Column place) h = omega arith
depth_le-expression (Chain first steps) h =
    omega (arith, h, most_le-chained first.value steps.items, length_le-chained first.value steps.items)

pub depth_le-condition : (n : CondNode) → HasOthers n
    → max (deep-CondNode n) 0 ≤ nodes_of_condition (condition_of n)
depth_le-condition (Compared k a b) h = omega arith
depth_le-condition (IsNull a) h = omega arith
depth_le-condition (Between a low high) h = omega arith
depth_le-condition (In a list) h = omega arith
depth_le-condition (Not x) h = omega arith
depth_le-condition (And first others) h =
    omega (arith, h, most_le-all_of first.value others.items, length_le-all_of first.value others.items)
depth_le-condition (Or first others) h =
    omega (arith, h, most_le-any_of first.value others.items, length_le-any_of first.value others.items)
