-- What a write makes in the cache before the bank is asked. (TimesTen SQL Reference, "INSERT", "UPDATE", "DELETE";
-- locks and the order of refusals are this project's rule.)

use Rattle.std.specs.Prelude.{ℕ, List, [], ◌∷◌, Option, Some, None, Result, Ok, Err}
use Rattle.std.specs.Option.{option_or}
use Rattle.row_types.specs.declared.rule.Rule.{Rule}
use Rattle.row_types.specs.declared.value.Value.{Value}
use Rattle.tier_base.specs.declared.number.TableId.{TableId}
use Rattle.table_state.specs.declared.operation.Op.{Op}
use Rattle.table_state.specs.declared.operation.Op.TheVariants.{Insert, Update, Delete}
use Rattle.table_state.specs.Refusals.{broken_by_all}
use Rattle.table_state.specs.Tables.{TableState}
use Rattle.evaluator.specs.declared.change.Change.{Change}
use Rattle.evaluator.specs.Rules.{then_do}
use Rattle.evaluator.specs.Writes.{effects_of}
use Rattle.cache_tier.specs.InsertSteps.{has_key_in, taken}
use Rattle.cache_tier.specs.Locks.{lock_fault}
use Rattle.cache_tier.specs.OwnWrites.{room_of}
use Rattle.cache_tier.specs.Rules.{broken_if, rule_of_apply}
use Rattle.cache_tier.specs.TierStates.{Session, Tier}

-- a row that is inserted into a table
pub record NewRow : Type 0 where
  pub table : TableId
  pub row : List Value

-- the row of an INSERT, which is one operation
abbrev pub inserted_row : List Op → Option NewRow
inserted_row [] = None
inserted_row (Insert table row ∷ []) = Some (record { table = table; row = row })
inserted_row (Insert table row ∷ op ∷ ops) = None
inserted_row (Update table old new ∷ ops) = None
inserted_row (Delete table old ∷ ops) = None

-- 107 of an INSERT whose key is shown; what keeps the operations of another write from being applied
abbrev pub shown_fault_of : Tier → TableState → List Op → Option NewRow → Option Rule
shown_fault_of t seen ops (Some new) = broken_if (has_key_in seen new.table new.row) (taken t new.table new.row)
shown_fault_of t seen ops None = rule_of_apply (broken_by_all ops seen)

-- what a write breaks over what the session sees, before the bank is asked
abbrev pub shown_fault : Tier → TableState → List Op → Option Rule
shown_fault t seen ops = shown_fault_of t seen ops (inserted_row ops)

-- 111 of all operations comes before
abbrev pub write_refused_by : List ℕ → Tier → TableState → List Op → Option Rule
write_refused_by label t seen ops = option_or (lock_fault label t ops) (shown_fault t seen ops)

abbrev pub unless_broken : Option Rule → List Op → Result (List Op) Rule
unless_broken None ops = Ok ops
unless_broken (Some rule) ops = Err rule

-- the operations of a session's write over what it sees, or the first rule that it breaks before the bank is asked
abbrev pub prepared : Tier → Session → Change → TableState → Result (List Op) Rule
prepared t s change seen =
    then_do (λ ops. unless_broken (write_refused_by s.label t seen ops) ops) (effects_of (room_of s) change seen)
