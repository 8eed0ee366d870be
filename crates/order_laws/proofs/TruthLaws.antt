-- Small laws of truths and options.
use Rattle.std.proofs.Common.{◌≡◌, Bool, true, false, not, ◌&&◌, ◌||◌, Option, Some, None, refl}
use Rattle.std.specs.Option.{option_and_then}

pub or_true : (b : Bool) → (b || true) ≡ true
or_true true = refl
or_true false = refl

pub or_false : (b : Bool) → (b || false) ≡ b
or_false true = refl
or_false false = refl

pub both_true : (a b : Bool) → (a && b) ≡ true → (a ≡ true) × (b ≡ true)
both_true true b e = (refl, e)
both_true false b e = cc

pub first_true : (a b : Bool) → (a && b) ≡ true → a ≡ true
first_true true b e = refl
first_true false b e = cc

pub untrue : (b : Bool) → not b ≡ true → b ≡ false
untrue true e = cc
untrue false e = refl

pub never_both : (b : Bool) → b ≡ true → b ≡ false → ⊥
never_both true e f = cc
never_both false e f = cc

pub not_both : (b : Bool) → (b ≡ true → ⊥) → b ≡ false
not_both true never = absurd (never refl)
not_both false never = refl

pub same_some : {X : Type 0} {x y : X} → Some x ≡ Some y → x ≡ y
same_some e = cc

pub some_none : {X : Type 0} {x : X} → None ≡ Some x → ⊥
some_none e = cc

-- a step that does nothing
pub once_more : {X : Type 0} (o : Option X) → option_and_then (λ x. Some x) o ≡ o
once_more None = refl
once_more (Some x) = refl
