-- A write that is passed on to the backing database: it commits there by itself, with a ticket. (TimesTen Cache User's
-- Guide, "Setting a passthrough level"; that it has a ticket is this project's rule.)

use Rattle.std.specs.Prelude.{◌≡◌, ◌⊎◌, ℕ, List, [], ◌∷◌, Some, Result, Ok, Err}
use Rattle.table_state.specs.declared.history.Entry.{Entry}
use Rattle.table_state.specs.declared.history.Entry.TheVariants.{Own}
use Rattle.table_state.specs.declared.operation.Op.{Op}
use Rattle.table_state.specs.Histories.{state_of}
use Rattle.table_state.specs.Tables.{TableState}
use Rattle.evaluator.specs.declared.change.Change.{Change}
use Rattle.outside.specs.Bank.{Grows}
use Rattle.outside.specs.Console.{IsBrokenBy, IsDone}
use Rattle.outside.specs.declared.fault.BankError.{BankError}
use Rattle.outside.specs.declared.fault.BankError.TheVariants.{Failed, Memory}
use Rattle.outside.specs.declared.site.Done.{Done}
use Rattle.outside.specs.declared.site.Done.TheVariants.{Rows, Broken}

-- the transaction comes with its ticket: one entry, also where it has no operations
pub record WritesOwn (ticket : ℕ) (change : Change) (ops : List Op) (rows : ℕ) (old new : List Entry) : Type 0 where
  pub done : (s : TableState) → state_of old ≡ Some s → IsDone (change ∷ []) ops rows s
  pub grows : Grows (Own (record { 0 = ticket }) ops ∷ []) old new

-- it is done with these operations, or breaks a rule, and then isn't
abbrev pub PassesWrite : ℕ → Change → List Op → Result Done BankError → List Entry → List Entry → Type 0
PassesWrite ticket change ops (Ok (Rows n)) old new = WritesOwn ticket change ops n old new
PassesWrite ticket change ops (Ok (Broken rule)) old new = Grows [] old new × IsBrokenBy (change ∷ []) rule old
PassesWrite ticket change ops (Err Memory) old new = Grows [] old new
PassesWrite ticket change ops (Err Failed) old new =
    Grows [] old new ⊎ ((n : ℕ) × WritesOwn ticket change ops n old new)

-- with some operations
pub record CommitsAlone (ticket : ℕ) (change : Change) (result : Result Done BankError) (old new : List Entry) : Type 0
  where
    pub ops : List Op
    pub passes : PassesWrite ticket change ops result old new
