-- What the walk over a chain goes down by.

use Rattle.std.proofs.Common.{◌≡◌, ℕ, ◌+◌, ◌<◌, ◌≤◌, List, [], ◌∷◌, length, get_or, zero, suc, arith}
use Rattle.sql_query.specs.Trees.{ConditionTree, ExpressionTree, All, Any, Binary, nodes_of_condition, nodes_of_expression}
use Rattle.sql_query.specs.Views.{all_of, any_of, chained}
use Rattle.sql_query.specs.declared.expression.Link.{Link}

-- the nodes of all operands
abbrev pub nodes_of_links : List Link → ℕ
nodes_of_links [] = 0
nodes_of_links (l ∷ ls) = nodes_of_expression l.operand + nodes_of_links ls

pub nodes_of_chained : (e : ExpressionTree) (ls : List Link)
    → nodes_of_expression (chained e ls) ≡ nodes_of_expression e + nodes_of_links ls + length ls
nodes_of_chained e [] = omega arith
nodes_of_chained e (l ∷ ls) = omega (arith, nodes_of_chained (Binary l.operation e l.operand) ls)

-- no operand has more
pub nodes_of_operand : (ls : List Link) (i : ℕ) (d : Link) → i < length ls
    → nodes_of_expression (get_or ls i d).operand ≤ nodes_of_links ls
nodes_of_operand [] i d h = omega (arith, h)
nodes_of_operand (l ∷ ls) zero d h = omega arith
nodes_of_operand (l ∷ ls) (suc i) d h = omega (arith, nodes_of_operand ls i d (omega (arith, h)))

-- the same of conditions
abbrev pub nodes_of_others : List ConditionTree → ℕ
nodes_of_others [] = 0
nodes_of_others (c ∷ cs) = nodes_of_condition c + nodes_of_others cs

pub nodes_of_all : (c : ConditionTree) (cs : List ConditionTree)
    → nodes_of_condition (all_of c cs) ≡ nodes_of_condition c + nodes_of_others cs + length cs
nodes_of_all c [] = omega arith
nodes_of_all c (d ∷ ds) = omega (arith, nodes_of_all (All c d) ds)

pub nodes_of_any : (c : ConditionTree) (cs : List ConditionTree)
    → nodes_of_condition (any_of c cs) ≡ nodes_of_condition c + nodes_of_others cs + length cs
nodes_of_any c [] = omega arith
nodes_of_any c (d ∷ ds) = omega (arith, nodes_of_any (Any c d) ds)

pub nodes_of_other : (cs : List ConditionTree) (i : ℕ) (d : ConditionTree) → i < length cs
    → nodes_of_condition (get_or cs i d) ≤ nodes_of_others cs
nodes_of_other [] i d h = omega (arith, h)
nodes_of_other (c ∷ cs) zero d h = omega arith
nodes_of_other (c ∷ cs) (suc i) d h = omega (arith, nodes_of_other cs i d (omega (arith, h)))
