-- A chain that gets longer at its end.

use Rattle.std.specs.Prelude.{◌≡◌, refl, List, [], ◌∷◌, ◌++◌}
use Rattle.sql_query.specs.Trees.{ConditionTree, ExpressionTree, All, Any, Binary}
use Rattle.sql_query.specs.Views.{all_of, any_of, chained}
use Rattle.sql_query.specs.declared.expression.Link.{Link}

pub longer_chain : (e : ExpressionTree) (links : List Link) (link : Link)
    → chained e (links ++ link ∷ []) ≡ Binary link.operation (chained e links) link.operand
longer_chain e [] link = refl
longer_chain e (l ∷ ls) link = longer_chain (Binary l.operation e l.operand) ls link

pub longer_all : (c : ConditionTree) (others : List ConditionTree) (d : ConditionTree)
    → all_of c (others ++ d ∷ []) ≡ All (all_of c others) d
longer_all c [] d = refl
longer_all c (x ∷ xs) d = longer_all (All c x) xs d

pub longer_any : (c : ConditionTree) (others : List ConditionTree) (d : ConditionTree)
    → any_of c (others ++ d ∷ []) ≡ Any (any_of c others) d
longer_any c [] d = refl
longer_any c (x ∷ xs) d = longer_any (Any c x) xs d
