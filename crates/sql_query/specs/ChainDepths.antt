-- No part is deeper than the whole. No contract speaks of it.

use Rattle.std.specs.Prelude.{◌≤◌, max}
use Rattle.std.proofs.Common.{arith}
use Rattle.sql_query.specs.ChainSizes.{length_le-all_of, length_le-any_of, length_le-chained, most_le-all_of, most_le-any_of, most_le-chained}
use Rattle.sql_query.specs.Trees.{nodes_of_condition, nodes_of_expression}
use Rattle.sql_query.specs.Views.{HasOthers, HasLinks, condition_of, expression_of}
use Rattle.sql_query.specs.declared.condition.Condition.TheDeep.{deep-ConditionNode}
use Rattle.sql_query.specs.declared.condition.ConditionNode.{ConditionNode}
use Rattle.sql_query.specs.declared.condition.ConditionNode.TheVariants.{Compared, Missing, Between, Among, Not, All, Any}
use Rattle.sql_query.specs.declared.expression.Expression.TheDeep.{deep-ExpressionNode}
use Rattle.sql_query.specs.declared.expression.ExpressionNode.{ExpressionNode}
use Rattle.sql_query.specs.declared.expression.ExpressionNode.TheVariants.{Literal, Column, Chain}

pub depth_le-expression : (n : ExpressionNode) → HasLinks n
    → max (deep-ExpressionNode n) 0 ≤ nodes_of_expression (expression_of n)
depth_le-expression (Literal literal) h = omega arith
depth_le-expression (Column name) h = omega arith
depth_le-expression (Chain first links) h =
    omega (arith, h, most_le-chained first.value links.items, length_le-chained first.value links.items)

pub depth_le-condition : (n : ConditionNode) → HasOthers n
    → max (deep-ConditionNode n) 0 ≤ nodes_of_condition (condition_of n)
depth_le-condition (Compared k a b) h = omega arith
depth_le-condition (Missing negated a) h = omega arith
depth_le-condition (Between negated a low high) h = omega arith
depth_le-condition (Among negated a list) h = omega arith
depth_le-condition (Not x) h = omega arith
depth_le-condition (All first others) h =
    omega (arith, h, most_le-all_of first.value others.items, length_le-all_of first.value others.items)
depth_le-condition (Any first others) h =
    omega (arith, h, most_le-any_of first.value others.items, length_le-any_of first.value others.items)
