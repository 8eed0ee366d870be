-- Conditions and expressions that a loop goes over.
use Rattle.std.proofs.Common.{◌≡◌, ℕ, zero, suc, ◌+◌, ◌<◌, arith, get_or, length, take, List, [], ◌∷◌, subst}
use Rattle.expressions.specs.row_types.specs.declared.value.Value.{Value}
use Rattle.expressions.specs.row_types.specs.Truths.{both, either}
use Rattle.expressions.specs.Conditions.{holds}
use Rattle.expressions.specs.Trees.{Cond, Expr, And, Or}
use Rattle.expressions.specs.Views.{all_of, any_of}
use Rattle.evaluator.specs.KeyPaths.{HasNoArithmetic, HaveNoArithmetic, NeverOverflows, Pins}
use Rattle.evaluator.proofs.ConditionLaws.{and_first, and_second, both_there}

-- the expression that comes next has no arithmetic
pub list_next : (es : List Expr) (i : ℕ) (e : Expr) → i < length es → e ≡ get_or es i e → HaveNoArithmetic (take i es)
    → HasNoArithmetic e → HaveNoArithmetic (take (i + 1) es)
list_next [] i e within is so_far next = absurd (omega arith)
list_next (x ∷ es) zero e within is so_far next = (subst HasNoArithmetic is next, tt)
list_next (x ∷ es) (suc i) e within is so_far next =
    let step : suc i + 1 ≡ suc (i + 1) = omega arith in
    rw step (so_far.0, list_next es i e (omega arith) is so_far.1 next)

-- the condition that comes next is never 120
and_there : (c d : Cond) → NeverOverflows c → NeverOverflows d → NeverOverflows (And c d)
and_there c d p q row = both_there both (holds c row) (holds d row) (p row) (q row)

or_there : (c d : Cond) → NeverOverflows c → NeverOverflows d → NeverOverflows (Or c d)
or_there c d p q row = both_there either (holds c row) (holds d row) (p row) (q row)

pub all_next : (c : Cond) (ds : List Cond) (i : ℕ) (d : Cond) → i < length ds → d ≡ get_or ds i d
    → NeverOverflows (all_of c (take i ds)) → NeverOverflows d → NeverOverflows (all_of c (take (i + 1) ds))
all_next c [] i d within is so_far next = absurd (omega arith)
all_next c (x ∷ ds) zero d within is so_far next = and_there c x so_far (subst NeverOverflows is next)
all_next c (x ∷ ds) (suc i) d within is so_far next =
    let step : suc i + 1 ≡ suc (i + 1) = omega arith in
    rw step (all_next (And c x) ds i d (omega arith) is so_far next)

pub any_next : (c : Cond) (ds : List Cond) (i : ℕ) (d : Cond) → i < length ds → d ≡ get_or ds i d
    → NeverOverflows (any_of c (take i ds)) → NeverOverflows d → NeverOverflows (any_of c (take (i + 1) ds))
any_next c [] i d within is so_far next = absurd (omega arith)
any_next c (x ∷ ds) zero d within is so_far next = or_there c x so_far (subst NeverOverflows is next)
any_next c (x ∷ ds) (suc i) d within is so_far next =
    let step : suc i + 1 ≡ suc (i + 1) = omega arith in
    rw step (any_next (Or c x) ds i d (omega arith) is so_far next)

-- what one condition pins, AND between it and others does
pub pins_first : (c : Cond) (ds : List Cond) (chosen : List Value) (p : ℕ) (v : Value) → Pins c chosen p v
    → Pins (all_of c ds) chosen p v
pins_first c [] chosen p v pins = pins
pins_first c (d ∷ ds) chosen p v pins =
    pins_first (And c d) ds chosen p v (λ row h. pins row (and_first (holds c _) (holds d _) h))

pub pins_other : (c : Cond) (ds : List Cond) (i : ℕ) (d : Cond) (chosen : List Value) (p : ℕ) (v : Value)
    → i < length ds → d ≡ get_or ds i d → Pins d chosen p v → Pins (all_of c ds) chosen p v
pins_other c [] i d chosen p v within is pins = absurd (omega arith)
pins_other c (x ∷ ds) zero d chosen p v within is pins =
    pins_first (And c x) ds chosen p v
    (λ row h. subst (λ y. Pins y chosen p v) is pins row (and_second (holds c _) (holds x _) h))
pins_other c (x ∷ ds) (suc i) d chosen p v within is pins = pins_other (And c x) ds i d chosen p v (omega arith) is pins
