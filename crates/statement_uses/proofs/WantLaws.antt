-- What a statement wants, by the definitions of groups.
use Rattle.std.proofs.Common.{ℕ, ◌+◌, ◌<◌, ◌≤◌, ◌≡◌, arith, Bool, drop, get_or, length, true, false, cond, Option, Some, None, List, [], ◌∷◌, ◌++◌, find, refl, sym, ap, ◌∙◌}
use Rattle.std.specs.Option.{option_or}
use Rattle.row_types.specs.declared.value.Value.{Value}
use Rattle.tier_base.specs.declared.number.TableId.{TableId}
use Rattle.table_defs.specs.declared.definition.TableDef.{TableDef}
use Rattle.expressions.proofs.FoldLaws.{rest_at}
use Rattle.expressions.specs.Trees.{And, Binary, Cond, Expr, Or}
use Rattle.expressions.specs.Views.{all_of, any_of, chained}
use Rattle.expressions.specs.declared.expression.Step.{Step}
use Rattle.resolution.specs.Placing.{PlacedCondition, condition_seen, expression_seen}
use Rattle.cache_tier.specs.Groups.{Group, covers, definitions_of, group_over, is_defined_on}
use Rattle.cache_tier.specs.Wants.{conjuncts, foreign_within, given_by, given_in, is_column, literal_in}
use Rattle.cache_tier.proofs.GroupTables.{over_is_found}

-- the first literal of two lists of conditions
pub given_append : (place : ℕ) (xs ys : List PlacedCondition) → given_in place (xs ++ ys) ≡ option_or (given_in place xs) (given_in place ys)
given_append place [] ys = refl
given_append place (x ∷ xs) ys =
    ap (option_or (given_by place x)) (given_append place xs ys) ∙ assoc (given_by place x) (given_in place xs) (given_in place ys)
  where
    assoc : (a b c : Option Value) → option_or a (option_or b c) ≡ option_or (option_or a b) c
    assoc None b c = refl
    assoc (Some v) b c = refl

-- the first literal so far
abbrev pub given_from : ℕ → Option Value → List Cond → Option Value
given_from place o [] = o
given_from place o (c ∷ cs) = given_from place (option_or o (given_in place (conjuncts (condition_seen c)))) cs

pub given_all : (place : ℕ) (c : Cond) (cs : List Cond)
    → given_in place (conjuncts (condition_seen (all_of c cs))) ≡ given_from place (given_in place (conjuncts (condition_seen c))) cs
given_all place c [] = refl
given_all place c (d ∷ ds) =
    given_all place (And c d) ds
    ∙ ap (λ o. given_from place o ds) (given_append place (conjuncts (condition_seen c)) (conjuncts (condition_seen d)))

pub given_stays : (place : ℕ) (v : Value) (cs : List Cond) → given_from place (Some v) cs ≡ Some v
given_stays place v [] = refl
given_stays place v (c ∷ cs) = given_stays place v cs

pub given_here : (place : ℕ) (cs : List Cond) (i : ℕ) (c : Cond) (v : Value) → i < length cs → c ≡ get_or cs i c
    → given_in place (conjuncts (condition_seen c)) ≡ Some v → given_from place None (drop i cs) ≡ Some v
given_here place cs i c v within e h =
    ap (given_from place None) (rest_at cs i c within e)
    ∙ ap (λ o. given_from place o (drop (i + 1) cs)) h ∙ given_stays place v (drop (i + 1) cs)

-- an operation is no column and no literal, and OR gives a column nothing
pub no_column : (place : ℕ) (e : Expr) (steps : List Step) → 1 ≤ length steps
    → is_column place (expression_seen (chained e steps)) ≡ false
no_column place e [] long = absurd (omega arith)
no_column place e (s ∷ []) long = refl
no_column place e (s ∷ t ∷ ss) long = no_column place (Binary s.operation e s.operand) (t ∷ ss) (omega arith)

pub no_literal : (e : Expr) (steps : List Step) → 1 ≤ length steps
    → literal_in (expression_seen (chained e steps)) ≡ None
no_literal e [] long = absurd (omega arith)
no_literal e (s ∷ []) long = refl
no_literal e (s ∷ t ∷ ss) long = no_literal (Binary s.operation e s.operand) (t ∷ ss) (omega arith)

pub none_given : (place : ℕ) (c : Cond) (others : List Cond) → 1 ≤ length others
    → given_in place (conjuncts (condition_seen (any_of c others))) ≡ None
none_given place c [] long = absurd (omega arith)
none_given place c (d ∷ []) long = refl
none_given place c (d ∷ x ∷ xs) long = none_given place (Or c d) (x ∷ xs) (omega arith)

-- the foreign key within a group is told by its definition
found_same : (gs hs : List Group) (t : TableId) (def : TableDef) → definitions_of gs ≡ definitions_of hs → foreign_within (find (covers t) gs) t def ≡ foreign_within (find (covers t) hs) t def
found_same [] [] t def same = refl
found_same [] (h ∷ hs) t def same = cc
found_same (g ∷ gs) [] t def same = cc
found_same (g ∷ gs) (h ∷ hs) t def same =
    ap (λ d. foreign_within (cond (is_defined_on t d) (Some g) (find (covers t) gs)) t def) first
    ∙ by (is_defined_on t h.def) (found_same gs hs t def rest)
  where
    first : g.def ≡ h.def
    first = cc

    rest : definitions_of gs ≡ definitions_of hs
    rest = cc

    by : (b : Bool) → foreign_within (find (covers t) gs) t def ≡ foreign_within (find (covers t) hs) t def → foreign_within (cond b (Some g) (find (covers t) gs)) t def ≡ foreign_within (cond b (Some h) (find (covers t) hs)) t def
    by true more = ap (λ d. foreign_within (Some (record g { def = d })) t def) first
    by false more = more

pub foreign_same : (gs hs : List Group) (t : TableId) (def : TableDef) → definitions_of gs ≡ definitions_of hs → foreign_within (group_over gs t) t def ≡ foreign_within (group_over hs t) t def
foreign_same gs hs t def same =
    ap (λ o. foreign_within o t def) (over_is_found gs t) ∙ found_same gs hs t def same
    ∙ sym (ap (λ o. foreign_within o t def) (over_is_found hs t))
