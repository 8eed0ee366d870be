-- What the printing of a chain goes down by.
use Rattle.std.specs.Prelude.{◌+◌, ◌*◌, ◌≤◌, List, [], ◌∷◌}
use Rattle.std.proofs.Common.{arith}
use denote.Param.Weighed.{most}
use Rattle.sql_phrases.specs.sql_query.specs.Trees.{ConditionTree, nodes_of_condition}
use Rattle.sql_phrases.specs.sql_query.specs.declared.condition.Condition.TheDeep.{size-Condition}
use Rattle.sql_phrases.specs.sql_query.specs.declared.expression.Expression.TheDeep.{deep-Link, size-Link}
use Rattle.sql_phrases.specs.sql_query.specs.declared.expression.Link.{Link}

-- the size of a link is thrice its depth and one
pub most_size-links : (links : List Link) → most size-Link links ≤ 3 * most deep-Link links + 1
most_size-links [] = omega arith
most_size-links (l ∷ ls) = omega (arith, most_size-links ls)

-- the size of a condition is twice its depth
pub most_size-conditions : (others : List ConditionTree)
    → most size-Condition others ≤ 2 * most (λ d. nodes_of_condition d + 1) others
most_size-conditions [] = omega arith
most_size-conditions (d ∷ ds) = omega (arith, most_size-conditions ds)
