-- What a recursion over chains goes down by.

use Rattle.std.specs.Prelude.{ℕ, ◌+◌, ◌*◌, ◌≤◌, List, [], ◌∷◌, max}
use Rattle.std.proofs.Common.{arith}
use denote.Param.Weighed.{most}
use Rattle.expressions.specs.Trees.{Cond, Expr, nodes_of_condition, nodes_of_expression}
use Rattle.expressions.specs.declared.condition.Cond.TheDeep.{size-Cond}
use Rattle.expressions.specs.declared.expression.Expr.TheDeep.{deep-Step, size-Step}
use Rattle.expressions.specs.declared.expression.Step.{Step}

-- a step is dropped by calls of three ranks
pub most_size-steps : (steps : List Step) → most size-Step steps ≤ 3 * most deep-Step steps + 1
most_size-steps [] = omega arith
most_size-steps (l ∷ ls) = omega (arith, most_size-steps ls)

-- a condition by calls of two
pub most_size-conditions : (others : List Cond)
    → most size-Cond others ≤ 2 * most (λ d. nodes_of_condition d + 1) others
most_size-conditions [] = omega arith
most_size-conditions (d ∷ ds) = omega (arith, most_size-conditions ds)

-- the depths of chains: of the deepest of its parts, and one more
abbrev pub depth_of_chain : Expr → List Step → ℕ
depth_of_chain e steps = max (nodes_of_expression e + 1) (most deep-Step steps)

abbrev pub depth_of_list : Cond → List Cond → ℕ
depth_of_list c others = max (nodes_of_condition c + 1) (most (λ d. nodes_of_condition d + 1) others)
