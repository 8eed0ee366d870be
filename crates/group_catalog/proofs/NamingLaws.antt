-- What a table's names break.
use Rattle.std.proofs.Common.{◌≡◌, ◌∙◌, ℕ, List, Option, None, Bool, true, false, Result, Err, ap, refl, sym, if◌then◌else◌}
use Rattle.std.specs.Option.{option_or}
use Rattle.tier_base.specs.declared.code.Code.{Code}
use Rattle.row_types.specs.declared.rule.Rule.{Rule}
use Rattle.row_types.specs.declared.rule.Refused.{Refused}
use Rattle.row_types.specs.declared.rule.Refused.TheVariants as refused
use Rattle.table_defs.specs.Declarations.{IsRefusedBy, broken_at}
use Rattle.resolution.specs.Results.{Gives}
use Rattle.cache_tier.specs.Rules.{rule_in}

-- the third of three
pub third_fault : {A B : Type 0} (view : A → B) (a b : Option Rule) (r told : Result B Rule) (e : Refused) → a ≡ None → b ≡ None
    → told ≡ r → Gives view told (Err e) → IsRefusedBy (option_or a (option_or b (rule_in r))) e
third_fault view a b r told (refused.Rule rule) na nb same g =
    ap (λ (x : Option Rule). option_or x (option_or b (rule_in r))) na
    ∙ ap (λ (x : Option Rule). option_or x (rule_in r)) nb
    ∙ ap rule_in (sym same ∙ g)
third_fault view a b r told refused.Memory na nb same g = tt

-- a name that isn't there breaks nothing
pub unbroken_if : (c : Code) (known : Bool) (name : Option (List ℕ)) → broken_at c (if known then None else name) ≡ None
    → (if known then None else broken_at c name) ≡ None
unbroken_if c true name e = refl
unbroken_if c false name e = e
