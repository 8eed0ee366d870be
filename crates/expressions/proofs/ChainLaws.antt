-- A chain that gets longer at its end.

use Rattle.std.specs.Prelude.{◌≡◌, refl, List, [], ◌∷◌, ◌++◌}
use Rattle.expressions.specs.Trees.{Cond, Expr, And, Or, Binary}
use Rattle.expressions.specs.Views.{all_of, any_of, chained}
use Rattle.expressions.specs.declared.expression.Step.{Step}

pub longer_chain : (e : Expr) (steps : List Step) (step : Step)
    → chained e (steps ++ step ∷ []) ≡ Binary step.operation (chained e steps) step.operand
longer_chain e [] step = refl
longer_chain e (l ∷ ls) step = longer_chain (Binary l.operation e l.operand) ls step

pub longer_all : (c : Cond) (others : List Cond) (d : Cond)
    → all_of c (others ++ d ∷ []) ≡ And (all_of c others) d
longer_all c [] d = refl
longer_all c (x ∷ xs) d = longer_all (And c x) xs d

pub longer_any : (c : Cond) (others : List Cond) (d : Cond)
    → any_of c (others ++ d ∷ []) ≡ Or (any_of c others) d
longer_any c [] d = refl
longer_any c (x ∷ xs) d = longer_any (Or c x) xs d
