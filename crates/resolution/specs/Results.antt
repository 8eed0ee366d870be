-- Results that may be a broken rule. The first broken rule counts.

use Rattle.std.specs.Prelude.{◌≡◌, Bool, true, false, Result, Ok, Err}
use Rattle.evaluator.specs.tier_base.specs.declared.code.Code.TheVariants as code
use Rattle.evaluator.specs.row_types.specs.declared.rule.Detail.TheVariants as detail
use Rattle.evaluator.specs.row_types.specs.declared.rule.Rule.{Rule}
use Rattle.evaluator.specs.row_types.specs.declared.rule.Refused.{Refused}
use Rattle.evaluator.specs.row_types.specs.declared.rule.Refused.TheVariants as refused
use Rattle.evaluator.specs.Rules.{then_do}

-- 104
abbrev pub mismatch : Rule
mismatch = record { code = code.TypeMismatch; detail = detail.Nothing }

-- 105 of a literal that no type holds
abbrev pub no_type : Rule
no_type = record { code = code.OutOfRange; detail = detail.NoType }

-- one after the other, and what is made of both
abbrev pub both : {A B C : Type 0} → (A → B → C) → Result A Rule → Result B Rule → Result C Rule
both f a b = then_do (λ x. then_do (λ y. Ok (f x y)) b) a

-- what is made of the result
abbrev pub then_make : {A B : Type 0} → (A → B) → Result A Rule → Result B Rule
then_make f a = then_do (λ x. Ok (f x)) a

-- what a call answers, seen through a view of it, or the broken rule; memory may be wanting at any time
abbrev pub Gives : {A B : Type 0} → (A → B) → Result B Rule → Result A Refused → Type 0
Gives view r (Ok x) = r ≡ Ok (view x)
Gives view r (Err (refused.Rule e)) = r ≡ Err e
Gives view r (Err refused.Memory) = Unit {0}

-- the rule is broken, or memory was wanting
abbrev pub IsRefusal : Rule → Refused → Type 0
IsRefusal rule (refused.Rule e) = e ≡ rule
IsRefusal rule refused.Memory = Unit {0}

-- refused with 104 where the types aren't sound, then with 105 where no type holds some literal
abbrev pub judged : {A : Type 0} → Bool → Bool → A → Result A Rule
judged false unheld x = Err mismatch
judged true true x = Err no_type
judged true false x = Ok x
