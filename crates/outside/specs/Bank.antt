-- What the calls of the backing database do to its history. (This project's model of the backing database.)

use Rattle.std.specs.Prelude.{◌≡◌, ◌⊎◌, ℕ, List, [], ◌∷◌, ◌++◌, Bool, true, false, Option, Some, None, Result, Ok, Err}
use Rattle.std.specs.Option.{IsSome}
use Rattle.std.specs.List.{Contains}
use Rattle.std.specs.FinMap.{get}
use Rattle.row_types.specs.declared.value.Value.{Value}
use Rattle.tier_base.specs.declared.number.TableId.{TableId}
use Rattle.tier_base.specs.declared.number.Ticket.{Ticket}
use Rattle.table_defs.specs.declared.definition.TableDef.{TableDef}
use Rattle.table_state.specs.declared.history.Entry.{Entry}
use Rattle.table_state.specs.declared.history.Entry.TheVariants.{Definition}
use Rattle.table_state.specs.declared.history.Sealed.{Sealed}
use Rattle.table_state.specs.Tables.{TableState, table_at}
use Rattle.table_state.specs.Histories.{state_of, has_ticket, entry_of, position_of}
use Rattle.outside.specs.Differences.{IsFirstDifference}
use Rattle.outside.specs.declared.fault.BankError.{BankError}
use Rattle.outside.specs.declared.fault.BankError.TheVariants.{Failed, Memory}
use Rattle.outside.specs.declared.site.Applied.{Applied}
use Rattle.outside.specs.declared.site.Applied.TheVariants.{Now, Before, NotReady, Differs}
use Rattle.outside.specs.declared.site.Receipt.{Receipt}

-- The history has these own entries behind it. Transactions of others may come before and behind them, in the same
-- moment (Others).
abbrev pub Grows : List Entry → List Entry → List Entry → Type 0
Grows own old new = new ≡ old ++ own

-- all of these tickets stand in the history
abbrev pub HasAll : List Ticket → List Entry → Type 0
HasAll [] history = Unit {0}
HasAll (ticket ∷ tickets) history = (has_ticket ticket.0 history ≡ true) × HasAll tickets history

-- the transaction can come next: its ticket is new, those that it waits for stand there, and its operations apply
pub record CanFollow (s : Sealed) (after : List Ticket) (old : List Entry) : Type 0 where
  pub fresh : has_ticket s.ticket.0 old ≡ false
  pub waited : HasAll after old
  pub applies : IsSome (state_of (old ++ entry_of s ∷ []))

-- the transaction came
pub record Comes (s : Sealed) (after : List Ticket) (old new : List Entry) : Type 0 where
  pub can : CanFollow s after old
  pub grows : Grows (entry_of s ∷ []) old new

-- the receipt is this transaction's, and its position is the one behind its entry
pub record IsReceipt (s : Sealed) (receipt : Receipt) (new : List Entry) : Type 0 where
  pub ticket : receipt.ticket ≡ s.ticket
  pub position : position_of s.ticket.0 new ≡ Some receipt.position.0

-- One transaction is applied and recorded at once, or was, or has to wait, or can't be; then the first difference is
-- told.
abbrev pub AppliesOnce : Sealed → List Ticket → Result Applied BankError → List Entry → List Entry → Type 0
AppliesOnce s after (Ok (Now receipt)) old new = Comes s after old new × IsReceipt s receipt new
AppliesOnce s after (Ok (Before receipt)) old new =
    (has_ticket s.ticket.0 old ≡ true) × Grows [] old new × IsReceipt s receipt new
AppliesOnce s after (Ok (NotReady ticket)) old new =
    (has_ticket s.ticket.0 old ≡ false) × Contains after ticket × (has_ticket ticket.0 old ≡ false) × Grows [] old new
AppliesOnce s after (Ok (Differs table key row)) old new =
    (has_ticket s.ticket.0 old ≡ false) × HasAll after old × (state_of (old ++ entry_of s ∷ []) ≡ None)
    × Grows [] old new × IsFirstDifference (table, key, row) s.ops old
AppliesOnce s after (Err Memory) old new = Grows [] old new
AppliesOnce s after (Err Failed) old new = Grows [] old new ⊎ Comes s after old new

-- one that has to wait waits for one of these tickets
abbrev pub WaitsForOne : List Ticket → Result Applied BankError → Type 0
WaitsForOne after (Ok (Now receipt)) = Unit {0}
WaitsForOne after (Ok (Before receipt)) = Unit {0}
WaitsForOne after (Ok (NotReady ticket)) = Contains after ticket
WaitsForOne after (Ok (Differs table key row)) = Unit {0}
WaitsForOne after (Err e) = Unit {0}

-- a table is made
abbrev pub Defines : TableDef → Result (Unit {0}) BankError → List Entry → List Entry → Type 0
Defines def (Ok done) old new = Grows (Definition def ∷ []) old new
Defines def (Err Memory) old new = Grows [] old new
Defines def (Err Failed) old new = Grows [] old new ⊎ Grows (Definition def ∷ []) old new

-- the schema of the state that the history leaves
abbrev pub TellsSchema : Result (List TableDef) BankError → List Entry → List Entry → Type 0
TellsSchema (Ok schema) old new = Grows [] old new × ((s : TableState) → state_of new ≡ Some s → schema ≡ s.schema)
TellsSchema (Err e) old new = Grows [] old new

-- the row at the key in the table of the state that the history leaves
abbrev pub TellsRow : TableId → List Value → Result (Option (List Value)) BankError → List Entry → List Entry → Type 0
TellsRow table key (Ok row) old new =
    Grows [] old new × ((s : TableState) → state_of new ≡ Some s → row ≡ get (table_at s table) key)
TellsRow table key (Err e) old new = Grows [] old new

-- whether the ticket stands in the history
abbrev pub TellsRecorded : ℕ → Result Bool BankError → List Entry → List Entry → Type 0
TellsRecorded ticket (Ok stands) old new = Grows [] old new × (stands ≡ has_ticket ticket new)
TellsRecorded ticket (Err e) old new = Grows [] old new
