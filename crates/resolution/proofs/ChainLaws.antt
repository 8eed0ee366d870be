-- Chains of operators, one link after the other.

use Rattle.std.proofs.Common.{◌≡◌, refl, ap, sym, ◌∙◌, ℕ, ◌+◌, ◌<◌, List, [], ◌∷◌, ◌++◌, length, get_or, take, drop}
use Rattle.std.proofs.lemmas.List.{drop_more, take_more}
use Rattle.std.specs.Prelude.{Result, Ok, Err}
use Rattle.evaluator.specs.row_types.specs.declared.rule.Rule.{Rule}
use Rattle.sql_query.specs.Trees.{ConditionTree, ExpressionTree, All, Any, Binary}
use Rattle.sql_query.specs.Views.{all_of, any_of, chained}
use Rattle.sql_query.specs.declared.expression.Link.{Link}
use Rattle.resolution.specs.Placing.{PlacedCondition, PlacedExpression, And, Or, placed_condition, placed_expression}
use Rattle.resolution.specs.Placing as placed
use Rattle.resolution.specs.Results.{both}
use Rattle.resolution.specs.Scopes.{SeenColumn}

-- what is made of a chain, from what was made of its beginning
abbrev pub placed_links : List SeenColumn → Result PlacedExpression Rule → List Link → Result PlacedExpression Rule
placed_links scope r [] = r
placed_links scope r (l ∷ ls) =
    placed_links scope (both (placed.Binary l.operation) r (placed_expression scope l.operand)) ls

pub placed_chained : (scope : List SeenColumn) (e : ExpressionTree) (ls : List Link)
    → placed_expression scope (chained e ls) ≡ placed_links scope (placed_expression scope e) ls
placed_chained scope e [] = refl
placed_chained scope e (l ∷ ls) = placed_chained scope (Binary l.operation e l.operand) ls

-- a refusal stays
pub refused_links : (scope : List SeenColumn) (rule : Rule) (ls : List Link)
    → placed_links scope (Err rule) ls ≡ Err rule
refused_links scope rule [] = refl
refused_links scope rule (l ∷ ls) = refused_links scope rule ls

-- the next link
pub next_link : (scope : List SeenColumn) (x : PlacedExpression) (ls : List Link) (i : ℕ) (l : Link)
    → i < length ls → l ≡ get_or ls i l → placed_links scope (Ok x) (drop i ls)
    ≡ placed_links scope (both (placed.Binary l.operation) (Ok x) (placed_expression scope l.operand)) (drop (i + 1) ls)
next_link scope x ls i l below at =
    ap (placed_links scope (Ok x)) (drop_more ls i l below ∙ ap (λ k. k ∷ drop (i + 1) ls) (sym at))

-- the chain is longer by it
longer_chain : (e : ExpressionTree) (ls : List Link) (l : Link)
    → chained e (ls ++ l ∷ []) ≡ Binary l.operation (chained e ls) l.operand
longer_chain e [] l = refl
longer_chain e (k ∷ ks) l = longer_chain (Binary k.operation e k.operand) ks l

pub chain_so_far : (e : ExpressionTree) (ls : List Link) (i : ℕ) (l : Link)
    → i < length ls → l ≡ get_or ls i l
    → chained e (take (i + 1) ls) ≡ Binary l.operation (chained e (take i ls)) l.operand
chain_so_far e ls i l below at =
    ap (chained e) (take_more ls i l below ∙ ap (λ k. take i ls ++ k ∷ []) (sym at)) ∙ longer_chain e (take i ls) l

-- the same of conditions, by how two of them are joined
abbrev pub placed_others : (PlacedCondition → PlacedCondition → PlacedCondition) → List SeenColumn
    → Result PlacedCondition Rule → List ConditionTree → Result PlacedCondition Rule
placed_others join scope r [] = r
placed_others join scope r (c ∷ cs) = placed_others join scope (both join r (placed_condition scope c)) cs

pub placed_all : (scope : List SeenColumn) (c : ConditionTree) (cs : List ConditionTree)
    → placed_condition scope (all_of c cs) ≡ placed_others And scope (placed_condition scope c) cs
placed_all scope c [] = refl
placed_all scope c (d ∷ ds) = placed_all scope (All c d) ds

pub placed_any : (scope : List SeenColumn) (c : ConditionTree) (cs : List ConditionTree)
    → placed_condition scope (any_of c cs) ≡ placed_others Or scope (placed_condition scope c) cs
placed_any scope c [] = refl
placed_any scope c (d ∷ ds) = placed_any scope (Any c d) ds

pub refused_others : (join : PlacedCondition → PlacedCondition → PlacedCondition) (scope : List SeenColumn)
    (rule : Rule) (cs : List ConditionTree) → placed_others join scope (Err rule) cs ≡ Err rule
refused_others join scope rule [] = refl
refused_others join scope rule (c ∷ cs) = refused_others join scope rule cs

pub next_other : (join : PlacedCondition → PlacedCondition → PlacedCondition) (scope : List SeenColumn)
    (x : PlacedCondition) (cs : List ConditionTree) (i : ℕ) (c : ConditionTree) → i < length cs → c ≡ get_or cs i c
    → placed_others join scope (Ok x) (drop i cs)
    ≡ placed_others join scope (both join (Ok x) (placed_condition scope c)) (drop (i + 1) cs)
next_other join scope x cs i c below at =
    ap (placed_others join scope (Ok x)) (drop_more cs i c below ∙ ap (λ d. d ∷ drop (i + 1) cs) (sym at))

longer_all : (c : ConditionTree) (cs : List ConditionTree) (d : ConditionTree)
    → all_of c (cs ++ d ∷ []) ≡ All (all_of c cs) d
longer_all c [] d = refl
longer_all c (x ∷ xs) d = longer_all (All c x) xs d

pub all_so_far : (c : ConditionTree) (cs : List ConditionTree) (i : ℕ) (d : ConditionTree)
    → i < length cs → d ≡ get_or cs i d → all_of c (take (i + 1) cs) ≡ All (all_of c (take i cs)) d
all_so_far c cs i d below at =
    ap (all_of c) (take_more cs i d below ∙ ap (λ x. take i cs ++ x ∷ []) (sym at)) ∙ longer_all c (take i cs) d

longer_any : (c : ConditionTree) (cs : List ConditionTree) (d : ConditionTree)
    → any_of c (cs ++ d ∷ []) ≡ Any (any_of c cs) d
longer_any c [] d = refl
longer_any c (x ∷ xs) d = longer_any (Any c x) xs d

pub any_so_far : (c : ConditionTree) (cs : List ConditionTree) (i : ℕ) (d : ConditionTree)
    → i < length cs → d ≡ get_or cs i d → any_of c (take (i + 1) cs) ≡ Any (any_of c (take i cs)) d
any_so_far c cs i d below at =
    ap (any_of c) (take_more cs i d below ∙ ap (λ x. take i cs ++ x ∷ []) (sym at)) ∙ longer_any c (take i cs) d
