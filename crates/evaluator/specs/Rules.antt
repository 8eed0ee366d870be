-- Results that may be a broken rule, and their lists: the first broken rule counts.

use Rattle.std.specs.Prelude.{◌≡◌, ℕ, List, [], ◌∷◌, ◌++◌, Option, Some, None, Result, Ok, Err, drop}
use Rattle.expressions.specs.tier_base.specs.declared.code.Code.{Code}
use Rattle.expressions.specs.tier_base.specs.declared.code.Code.TheVariants as code
use Rattle.expressions.specs.tier_base.specs.declared.limit.Limit.{Limit}
use Rattle.expressions.specs.row_types.specs.declared.rule.Detail.TheVariants as detail
use Rattle.expressions.specs.row_types.specs.declared.rule.Rule.{Rule}
use Rattle.expressions.specs.row_types.specs.declared.rule.Refused.{Refused}
use Rattle.expressions.specs.row_types.specs.declared.rule.Refused.TheVariants as refused
use Rattle.evaluator.specs.declared.capped.Capped.{Capped}
use Rattle.evaluator.specs.Capping.{folded, put}

-- 120
abbrev pub overflow : Rule
overflow = record { code = code.Overflow; detail = detail.Nothing }

-- 102, without a name
abbrev pub no_table : Rule
no_table = record { code = code.UnknownTable; detail = detail.Nothing }

-- a rule about a name
abbrev pub about : Code → List ℕ → Rule
about c name = record { code = c; detail = detail.Name name }

-- 119
abbrev pub limit : Limit → Rule
limit l = record { code = code.Limit; detail = detail.Limit l }

abbrev pub then_do : {A B : Type 0} → (A → Result B Rule) → Result A Rule → Result B Rule
then_do f (Ok x) = f x
then_do f (Err e) = Err e

abbrev pub or_overflow : {A : Type 0} → Option A → Result A Rule
or_overflow (Some x) = Ok x
or_overflow None = Err overflow

-- refused with this code where there is a name
abbrev pub unless : {A : Type 0} → Code → Option (List ℕ) → Result A Rule → Result A Rule
unless c (Some name) r = Err (about c name)
unless c None r = r

-- one list behind the other
abbrev pub added : {A : Type 0} → Result (List A) Rule → Result (List A) Rule → Result (List A) Rule
added a b = then_do (λ xs. then_do (λ ys. Ok (xs ++ ys)) b) a

-- what the elements give, one after the other; the first broken rule
abbrev pub each : {X A : Type 0} → (X → Result (List A) Rule) → List X → Result (List A) Rule
each f [] = Ok []
each f (x ∷ xs) = added (f x) (each f xs)

-- what a call gives; memory may be wanting at any time
abbrev pub Gives : {A : Type 0} → Result A Rule → Result A Refused → Type 0
Gives r (Ok x) = r ≡ Ok x
Gives r (Err (refused.Rule e)) = r ≡ Err e
Gives r (Err refused.Memory) = Unit {0}

-- what a call takes in, where `after` is what one element makes of it
abbrev pub TakesIn : {S A : Type 0} → (S → A → S) → Result (List A) Rule → Result (Unit {0}) Refused → S → S → Type 0
TakesIn {S} {A} after r (Ok u) old new = (more : List A) × (r ≡ Ok more) × (new ≡ folded after old more)
TakesIn after r (Err (refused.Rule e)) old new = r ≡ Err e
TakesIn after r (Err refused.Memory) old new = Unit {0}

-- what a call adds to a list
abbrev pub Adds : {A : Type 0} → Result (List A) Rule → Result (Unit {0}) Refused → Capped A → Capped A → Type 0
Adds r result old new = TakesIn put r result old new

-- what came of the elements before a place
abbrev pub TakenBefore : {S X A : Type 0} → (S → A → S) → (X → Result (List A) Rule) → List X → ℕ → S → S → Type 0
TakenBefore {S} {X} {A} after f xs i old new = (more : List A) × (each f xs ≡ added (Ok more) (each f (drop i xs)))
    × (new ≡ folded after old more)
