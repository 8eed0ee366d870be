-- A write that is passed on, at a site in memory. (This project's rule for sites in memory.)

use Rattle.std.specs.Prelude.{◌≡◌, ℕ, List, [], ◌∷◌, Option, Result, Ok, true, false}
use Rattle.std.specs.Result.{IsErr}
use Rattle.table_state.specs.declared.history.Entry.{Entry}
use Rattle.table_state.specs.Histories.{has_ticket}
use Rattle.evaluator.specs.declared.change.Change.{Change}
use Rattle.outside.specs.Passing.{CommitsAlone}
use Rattle.outside.specs.declared.fault.BankError.{BankError}
use Rattle.outside.specs.declared.site.Done.{Done}
use Rattle.backing_gate.specs.declared.plan.CallKind.TheVariants.{Passed}
use Rattle.backing_gate.specs.declared.plan.Outcome.{Outcome}
use Rattle.backing_gate.specs.Heeding.{BankState, Goes, Heeds, NoneDiffers, Step}
use Rattle.backing_gate.specs.Memory.{MemoryState}
use Rattle.backing_gate.specs.Plans.{planned_next}

-- its ticket is new, and it meets no row that isn't there as its operation says
pub record IsFresh (ticket : ℕ) (change : Change) (history : List Entry) : Type 0 where
  pub new : has_ticket ticket history ≡ false
  pub rows : NoneDiffers (change ∷ []) history

-- it is done with its ticket, or breaks a rule
abbrev pub IsPassed : ℕ → Change → Step
IsPassed ticket change begun done = (told : Done) × CommitsAlone ticket change (Ok told) begun done

-- nothing comes, and nothing is answered
pub record IsTurnedAway (old new : BankState) (result : Result Done BankError) : Type 0 where
  pub history : new.history ≡ old.history
  pub failed : IsErr result

-- One that is fresh comes out as this plan says. One whose ticket is recorded already is turned away.
pub record PassesAs (outcome : Option Outcome) (ticket : ℕ) (change : Change) (old new : BankState)
    (result : Result Done BankError) : Type 0 where
  pub fresh : IsFresh ticket change old.history
      → Heeds outcome old new result (IsPassed ticket change old.history new.history)
  pub known : has_ticket ticket old.history ≡ true → IsTurnedAway old new result

-- the same of a call, whose plan is the next one of its kind
abbrev pub PassedGoesAsPlanned : ℕ → Change → MemoryState → MemoryState → Result Done BankError → Type 0
PassedGoesAsPlanned ticket change old new result =
    Goes old new (λ begun done. PassesAs (planned_next Passed old.planned) ticket change begun done result)
