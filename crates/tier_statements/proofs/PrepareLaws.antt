-- Laws of what a write breaks first.
use Rattle.std.proofs.Common.{◌≡◌, ℕ, None, Result, Ok, Err, List, sym, ap, subst, ◌∙◌}
use Rattle.std.specs.Option.{option_or}
use Rattle.row_types.specs.declared.rule.Refused.{Refused}
use Rattle.row_types.specs.declared.rule.Refused.TheVariants as refused
use Rattle.table_defs.specs.Declarations.{Tells}
use Rattle.table_state.specs.declared.operation.Op.{Op}
use Rattle.table_state.specs.Tables.{TableState}
use Rattle.evaluator.specs.declared.change.Change.{Change}
use Rattle.evaluator.specs.Rules.{Gives, then_do}
use Rattle.evaluator.specs.Writes.{effects_of}
use Rattle.cache_tier.specs.Locks.{lock_fault}
use Rattle.cache_tier.specs.OwnWrites.{room_of}
use Rattle.cache_tier.specs.TierStates.{Session, Tier}
use Rattle.tier_statements.specs.Preparing.{prepared, shown_fault, unless_broken, write_refused_by}

module _ (label : List ℕ) (t : Tier) (seen : TableState) (ops : List Op) where
  pub locked_first : (e : Refused) → Tells {X = Unit {0}} (Err e) (lock_fault label t ops) → Tells {X = Unit {0}} (Err e) (write_refused_by label t seen ops)
  locked_first (refused.Rule rule) is = ap (λ o. option_or o (shown_fault t seen ops)) is
  locked_first refused.Memory is = tt

  pub then_shown : (r : Result (Unit {0}) Refused) → lock_fault label t ops ≡ None → Tells r (shown_fault t seen ops) → Tells r (write_refused_by label t seen ops)
  then_shown r none told = subst (Tells r) (sym (ap (λ o. option_or o (shown_fault t seen ops)) none)) told

module _ (t : Tier) (s : Session) (change : Change) (seen : TableState) where
  pub no_effects : (e : Refused) → Gives {A = List Op} (effects_of (room_of s) change seen) (Err e) → Gives {A = List Op} (prepared t s change seen) (Err e)
  no_effects (refused.Rule rule) is = ap (then_do (λ ops. unless_broken (write_refused_by s.label t seen ops) ops)) is
  no_effects refused.Memory is = tt

  module _ (ops : List Op) (is : effects_of (room_of s) change seen ≡ Ok ops) where
    by_fault : prepared t s change seen ≡ unless_broken (write_refused_by s.label t seen ops) ops
    by_fault = ap (then_do (λ ops. unless_broken (write_refused_by s.label t seen ops) ops)) is

    pub refused_by : (e : Refused) → Tells {X = Unit {0}} (Err e) (write_refused_by s.label t seen ops) → Gives {A = List Op} (prepared t s change seen) (Err e)
    refused_by (refused.Rule rule) told = by_fault ∙ ap (λ f. unless_broken f ops) told
    refused_by refused.Memory told = tt

    pub prepared_is : write_refused_by s.label t seen ops ≡ None → prepared t s change seen ≡ Ok ops
    prepared_is none = by_fault ∙ ap (λ f. unless_broken f ops) none
