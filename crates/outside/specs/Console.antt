-- Transactions of the console, and copies of the tables, at the backing database. (This project's model of the backing
-- database.)

use Rattle.std.specs.Prelude.{◌≡◌, ◌⊎◌, ℕ, List, [], ◌∷◌, Some, Result, Ok, Err, length, if◌then◌else◌}
use Rattle.std.specs.FinMap.{empty}
use Rattle.row_types.specs.declared.rule.Rule.{Rule}
use Rattle.tier_base.specs.declared.number.TableId.{TableId}
use Rattle.table_state.specs.declared.history.Entry.{Entry}
use Rattle.table_state.specs.declared.history.Entry.TheVariants.{Foreign}
use Rattle.table_state.specs.declared.operation.Op.{Op}
use Rattle.table_state.specs.declared.refusal.ApplyError.TheVariants as error
use Rattle.table_state.specs.Copies.{is_one_of}
use Rattle.table_state.specs.Histories.{state_of}
use Rattle.table_state.specs.Independence.{IsWhole}
use Rattle.table_state.specs.Operations.{applied_all}
use Rattle.table_state.specs.Tables.{TableState, table_at}
use Rattle.evaluator.specs.declared.change.Change.{Change}
use Rattle.transactions.specs.Transactions.{Leaves, written_by_all}
use Rattle.outside.specs.Bank.{Grows}
use Rattle.outside.specs.declared.fault.BankError.{BankError}
use Rattle.outside.specs.declared.fault.BankError.TheVariants.{Failed, Memory}
use Rattle.outside.specs.declared.site.Done.{Done}
use Rattle.outside.specs.declared.site.Done.TheVariants.{Rows, Broken}
use Rattle.outside.specs.declared.site.Snapshot.{Snapshot}

-- on this state the writes do these operations, which write so many rows of the named tables
pub record IsDone (changes : List Change) (ops : List Op) (rows : ℕ) (s : TableState) : Type 0 where
  pub left : TableState
  pub written : Leaves (written_by_all changes s) left (record { ops = ops; rows = rows })
  pub applies : applied_all ops s ≡ Some left

-- a transaction of the console comes: one entry, also where it has no operations
pub record Writes (changes : List Change) (rows : ℕ) (old new : List Entry) : Type 0 where
  pub ops : List Op
  pub done : (s : TableState) → state_of old ≡ Some s → IsDone changes ops rows s
  pub grows : Grows (Foreign ops ∷ []) old new

-- its writes break this rule
abbrev pub IsBrokenBy : List Change → Rule → List Entry → Type 0
IsBrokenBy changes rule history =
    (s : TableState) → state_of history ≡ Some s → written_by_all changes s ≡ Err (error.Rule rule)

-- A transaction of the console is done, all of its writes, or breaks a rule, and then none is done.
abbrev pub WritesForeign : List Change → Result Done BankError → List Entry → List Entry → Type 0
WritesForeign changes (Ok (Rows n)) old new = Writes changes n old new
WritesForeign changes (Ok (Broken rule)) old new = Grows [] old new × IsBrokenBy changes rule old
WritesForeign changes (Err Memory) old new = Grows [] old new
WritesForeign changes (Err Failed) old new = Grows [] old new ⊎ ((n : ℕ) × Writes changes n old new)

-- the tables that were asked for are those of the state, and the others have no rows
pub record IsCopyOf (asked : List TableId) (s copy : TableState) : Type 0 where
  pub schema : copy.schema ≡ s.schema
  pub whole : IsWhole copy
  pub rows : (t : TableId) → table_at copy t ≡ (if is_one_of asked t then table_at s t else empty)

-- the tables as the history leaves them, and its length
abbrev pub TakesSnapshot : List TableId → Result Snapshot BankError → List Entry → List Entry → Type 0
TakesSnapshot asked (Ok snapshot) old new =
    Grows [] old new × (snapshot.position.0 ≡ length new)
    × ((s : TableState) → state_of new ≡ Some s → IsCopyOf asked s snapshot.tables)
TakesSnapshot asked (Err e) old new = Grows [] old new
