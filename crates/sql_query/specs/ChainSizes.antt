-- A chain has more nodes than each of its parts. No contract speaks of it.

use Rattle.std.specs.Prelude.{◌+◌, ◌≤◌, List, [], ◌∷◌, length}
use Rattle.std.proofs.Common.{arith}
use denote.Param.Weighed.{most}
use Rattle.sql_query.specs.Trees.{ConditionTree, ExpressionTree, All, Any, Binary, nodes_of_condition, nodes_of_expression}
use Rattle.sql_query.specs.Views.{all_of, any_of, chained}
use Rattle.sql_query.specs.declared.expression.Expression.TheDeep.{deep-Link}
use Rattle.sql_query.specs.declared.expression.Link.{Link}

-- a chain has a node more for each operation
pub length_le-chained : (e : ExpressionTree) (links : List Link)
    → nodes_of_expression e + length links ≤ nodes_of_expression (chained e links)
length_le-chained e [] = omega arith
length_le-chained e (l ∷ ls) = omega (arith, length_le-chained (Binary l.operation e l.operand) ls)

-- no operand is larger
pub most_le-chained : (e : ExpressionTree) (links : List Link)
    → most deep-Link links ≤ nodes_of_expression (chained e links)
most_le-chained e [] = omega arith
most_le-chained e (l ∷ ls) =
    omega (
      arith,
      most_le-chained (Binary l.operation e l.operand) ls,
      length_le-chained (Binary l.operation e l.operand) ls,
    )

-- a list of conditions has a node more for each behind the first
pub length_le-all_of : (c : ConditionTree) (others : List ConditionTree)
    → nodes_of_condition c + length others ≤ nodes_of_condition (all_of c others)
length_le-all_of c [] = omega arith
length_le-all_of c (d ∷ ds) = omega (arith, length_le-all_of (All c d) ds)

-- none of them is larger
pub most_le-all_of : (c : ConditionTree) (others : List ConditionTree)
    → most (λ d. nodes_of_condition d + 1) others ≤ nodes_of_condition (all_of c others)
most_le-all_of c [] = omega arith
most_le-all_of c (d ∷ ds) = omega (arith, most_le-all_of (All c d) ds, length_le-all_of (All c d) ds)

-- the same of OR
pub length_le-any_of : (c : ConditionTree) (others : List ConditionTree)
    → nodes_of_condition c + length others ≤ nodes_of_condition (any_of c others)
length_le-any_of c [] = omega arith
length_le-any_of c (d ∷ ds) = omega (arith, length_le-any_of (Any c d) ds)

pub most_le-any_of : (c : ConditionTree) (others : List ConditionTree)
    → most (λ d. nodes_of_condition d + 1) others ≤ nodes_of_condition (any_of c others)
most_le-any_of c [] = omega arith
most_le-any_of c (d ∷ ds) = omega (arith, most_le-any_of (Any c d) ds, length_le-any_of (Any c d) ds)
