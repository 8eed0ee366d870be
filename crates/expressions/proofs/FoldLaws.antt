-- Chains gone through from left to right.

use Rattle.std.proofs.Common.{ℕ, zero, suc, ◌+◌, ◌<◌, ◌≡◌, ◌∙◌, ap, refl, sym, arith, drop, get_or, length, Bool, true, false, ◌&&◌, List, [], ◌∷◌, Option, Some, None, Result}
use Rattle.row_types.specs.declared.truth.Truth.{Truth}
use Rattle.row_types.specs.declared.truth.Truth.TheVariants.{True, False, Unknown}
use Rattle.row_types.specs.declared.value.Value.{Value}
use Rattle.row_types.specs.tier_base.specs.declared.code.Code.{Code}
use Rattle.row_types.specs.Truths.{either}
use Rattle.expressions.specs.Conditions.{among, both_hold, holds, one_holds}
use Rattle.expressions.specs.Expressions.{calculated, eval, with_both}
use Rattle.expressions.specs.Trees.{Cond, Expr, And, Or, Binary}
use Rattle.expressions.specs.Types.{family_of, has_sound_types, of_both}
use Rattle.expressions.specs.Views.{all_of, any_of, chained}
use Rattle.expressions.specs.declared.expression.Step.{Step}
use Rattle.expressions.specs.declared.typing.Family.{Family}

-- the operations on a value so far
abbrev pub applied : Option Value → List Step → List Value → Option Value
applied v [] row = v
applied v (s ∷ ss) row = applied (with_both (calculated s.operation) v (eval s.operand row)) ss row

pub eval_chained : (e : Expr) (ss : List Step) (row : List Value)
    → eval (chained e ss) row ≡ applied (eval e row) ss row
eval_chained e [] row = refl
eval_chained e (s ∷ ss) row = eval_chained (Binary s.operation e s.operand) ss row

pub applied_none : (ss : List Step) (row : List Value) → applied None ss row ≡ None
applied_none [] row = refl
applied_none (s ∷ ss) row = applied_none ss row

-- the family so far
abbrev pub family_from : Result (Option Family) Code → List Step → List Family → Result (Option Family) Code
family_from f [] columns = f
family_from f (s ∷ ss) columns = family_from (of_both f (family_of s.operand columns)) ss columns

pub family_chained : (e : Expr) (ss : List Step) (columns : List Family)
    → family_of (chained e ss) columns ≡ family_from (family_of e columns) ss columns
family_chained e [] columns = refl
family_chained e (s ∷ ss) columns = family_chained (Binary s.operation e s.operand) ss columns

-- AND so far
abbrev pub all_from : Option Truth → List Cond → List Value → Option Truth
all_from t [] row = t
all_from t (c ∷ cs) row = all_from (both_hold t (holds c row)) cs row

pub holds_all : (c : Cond) (cs : List Cond) (row : List Value) → holds (all_of c cs) row ≡ all_from (holds c row) cs row
holds_all c [] row = refl
holds_all c (d ∷ ds) row = holds_all (And c d) ds row

pub all_none : (cs : List Cond) (row : List Value) → all_from None cs row ≡ None
all_none [] row = refl
all_none (c ∷ cs) row = all_none cs row

-- OR so far
abbrev pub any_from : Option Truth → List Cond → List Value → Option Truth
any_from t [] row = t
any_from t (c ∷ cs) row = any_from (one_holds t (holds c row)) cs row

pub holds_any : (c : Cond) (cs : List Cond) (row : List Value) → holds (any_of c cs) row ≡ any_from (holds c row) cs row
holds_any c [] row = refl
holds_any c (d ∷ ds) row = holds_any (Or c d) ds row

pub any_none : (cs : List Cond) (row : List Value) → any_from None cs row ≡ None
any_none [] row = refl
any_none (c ∷ cs) row = any_none cs row

-- the rule of types so far
abbrev pub sound_from : Bool → List Cond → List Family → Bool
sound_from b [] columns = b
sound_from b (c ∷ cs) columns = sound_from (b && has_sound_types c columns) cs columns

pub sound_all : (c : Cond) (cs : List Cond) (columns : List Family)
    → has_sound_types (all_of c cs) columns ≡ sound_from (has_sound_types c columns) cs columns
sound_all c [] columns = refl
sound_all c (d ∷ ds) columns = sound_all (And c d) ds columns

pub sound_any : (c : Cond) (cs : List Cond) (columns : List Family)
    → has_sound_types (any_of c cs) columns ≡ sound_from (has_sound_types c columns) cs columns
sound_any c [] columns = refl
sound_any c (d ∷ ds) columns = sound_any (Or c d) ds columns

pub sound_none : (cs : List Cond) (columns : List Family) → sound_from false cs columns ≡ false
sound_none [] columns = refl
sound_none (c ∷ cs) columns = sound_none cs columns

-- IN gone through from the left
none_yet : (t : Option Truth) → one_holds (Some False) t ≡ t
none_yet None = refl
none_yet (Some True) = refl
none_yet (Some False) = refl
none_yet (Some Unknown) = refl

pub among_first : (v : Value) (es : List Expr) (row : List Value) → one_holds (Some False) (among v es row) ≡ among v es row
among_first v es row = none_yet (among v es row)

either_joins : (a b c : Truth) → either a (either b c) ≡ either (either a b) c
either_joins True True True = refl
either_joins True True False = refl
either_joins True True Unknown = refl
either_joins True False True = refl
either_joins True False False = refl
either_joins True False Unknown = refl
either_joins True Unknown True = refl
either_joins True Unknown False = refl
either_joins True Unknown Unknown = refl
either_joins False True True = refl
either_joins False True False = refl
either_joins False True Unknown = refl
either_joins False False True = refl
either_joins False False False = refl
either_joins False False Unknown = refl
either_joins False Unknown True = refl
either_joins False Unknown False = refl
either_joins False Unknown Unknown = refl
either_joins Unknown True True = refl
either_joins Unknown True False = refl
either_joins Unknown True Unknown = refl
either_joins Unknown False True = refl
either_joins Unknown False False = refl
either_joins Unknown False Unknown = refl
either_joins Unknown Unknown True = refl
either_joins Unknown Unknown False = refl
either_joins Unknown Unknown Unknown = refl

pub one_joins : (a b : Truth) (c : Option Truth)
    → one_holds (Some a) (one_holds (Some b) c) ≡ one_holds (Some (either a b)) c
one_joins a b None = refl
one_joins a b (Some c) = ap Some (either_joins a b c)

-- the element that comes next
pub rest_at : {A : Type 0} (xs : List A) (i : ℕ) (x : A) → i < length xs → x ≡ get_or xs i x
    → drop i xs ≡ x ∷ drop (i + 1) xs
rest_at [] i x within e = absurd (omega arith)
rest_at (y ∷ ys) zero x within e = ap (λ z. z ∷ ys) (sym e)
rest_at (y ∷ ys) (suc i) x within e =
    let next : suc i + 1 ≡ suc (i + 1) = omega arith in rw next (rest_at ys i x (omega arith) e)

-- where it refuses, all that are left do
pub sound_stops : (cs : List Cond) (i : ℕ) (c : Cond) (columns : List Family) → i < length cs → c ≡ get_or cs i c
    → has_sound_types c columns ≡ false → sound_from true (drop i cs) columns ≡ false
sound_stops cs i c columns within e h =
    ap (λ xs. sound_from true xs columns) (rest_at cs i c within e)
    ∙ ap (λ b. sound_from b (drop (i + 1) cs) columns) h ∙ sound_none (drop (i + 1) cs) columns

pub all_stops : (cs : List Cond) (i : ℕ) (c : Cond) (t : Truth) (row : List Value) → i < length cs → c ≡ get_or cs i c
    → holds c row ≡ None → all_from (Some t) (drop i cs) row ≡ None
all_stops cs i c t row within e h =
    ap (λ xs. all_from (Some t) xs row) (rest_at cs i c within e)
    ∙ ap (λ o. all_from (both_hold (Some t) o) (drop (i + 1) cs) row) h ∙ all_none (drop (i + 1) cs) row

pub any_stops : (cs : List Cond) (i : ℕ) (c : Cond) (t : Truth) (row : List Value) → i < length cs → c ≡ get_or cs i c
    → holds c row ≡ None → any_from (Some t) (drop i cs) row ≡ None
any_stops cs i c t row within e h =
    ap (λ xs. any_from (Some t) xs row) (rest_at cs i c within e)
    ∙ ap (λ o. any_from (one_holds (Some t) o) (drop (i + 1) cs) row) h ∙ any_none (drop (i + 1) cs) row

pub applied_stops : (ss : List Step) (i : ℕ) (s : Step) (v : Value) (row : List Value) → i < length ss → s ≡ get_or ss i s
    → with_both (calculated s.operation) (Some v) (eval s.operand row) ≡ None → applied (Some v) (drop i ss) row ≡ None
applied_stops ss i s v row within e h =
    ap (λ xs. applied (Some v) xs row) (rest_at ss i s within e)
    ∙ ap (λ o. applied o (drop (i + 1) ss) row) h ∙ applied_none (drop (i + 1) ss) row
