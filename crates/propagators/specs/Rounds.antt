-- A round of propagation by one thread: the unsettled transactions are applied at the bank in turn. (TimesTen Cache
-- User's Guide: asynchronous writethrough; the round is this project's rule.)

use Rattle.std.specs.Prelude.{◌≡◌, ◌⊎◌, ℕ, ◌≤◌, List, [], ◌∷◌, ◌++◌, true, false, Option, None, length, Result, Ok, Err}
use Rattle.std.specs.List.{Contains}
use Rattle.std.specs.Result.{IsErrOf}
use Rattle.row_types.specs.declared.value.Value.{Value}
use Rattle.tier_base.specs.declared.number.TableId.{TableId}
use Rattle.table_state.specs.declared.history.Entry.{Entry}
use Rattle.table_state.specs.declared.history.Entry.TheVariants.{Foreign}
use Rattle.table_state.specs.declared.history.Sealed.{Sealed}
use Rattle.table_state.specs.Copies.{is_one_of}
use Rattle.table_state.specs.Histories.{entry_of, has_ticket, state_of}
use Rattle.outside.specs.Bank.{CanFollow, Comes, Grows}
use Rattle.outside.specs.Calls.{Told}
use Rattle.outside.specs.Differences.{IsFirstDifference}
use Rattle.outside.specs.Faults.{Rose}
use Rattle.outside.specs.Holding.{Held}
use Rattle.outside.specs.Others.{AreOthers, is_shared}
use Rattle.outside.specs.Sites.{SiteState}
use Rattle.order_laws.specs.Events.{Event, Came, Left, Others}
use Rattle.propagators.specs.declared.rounds.RoundFault.{RoundFault}
use Rattle.propagators.specs.declared.rounds.RoundFault.TheVariants as stop

-- the transaction is the first of these
abbrev pub IsFirst : Sealed → List Sealed → Type 0
IsFirst s unsettled = (rest : List Sealed) × (unsettled ≡ s ∷ rest)

-- These events lead from a history and unsettled transactions to others: a transaction of others comes, on shared
-- tables; the first unsettled one comes, which didn't stand there; the first one, which stands there, leaves.
abbrev pub Leads : List TableId → List Event → List Entry → List Sealed → List Entry → List Sealed → Type 0
Leads shared [] history unsettled later left = (later ≡ history) × (left ≡ unsettled)
Leads shared (Others ops ∷ events) history unsettled later left =
    AreOthers shared history (Foreign ops ∷ []) × Leads shared events (history ++ Foreign ops ∷ []) unsettled later left
Leads shared (Came s ∷ events) history unsettled later left =
    IsFirst s unsettled × CanFollow s [] history × Leads shared events (history ++ entry_of s ∷ []) unsettled later left
Leads shared (Left s ∷ events) history unsettled later left =
    (rest : List Sealed) × (unsettled ≡ s ∷ rest) × (has_ticket s.ticket.0 history ≡ true)
    × Leads shared events history rest later left

-- those of the tier that come, and those that leave
abbrev pub came_in : List Event → List Sealed
came_in [] = []
came_in (Others ops ∷ events) = came_in events
came_in (Came s ∷ events) = s ∷ came_in events
came_in (Left s ∷ events) = came_in events

abbrev pub left_in : List Event → List Sealed
left_in [] = []
left_in (Others ops ∷ events) = left_in events
left_in (Came s ∷ events) = left_in events
left_in (Left s ∷ events) = s ∷ left_in events

-- A round: its events, and of those that came all but so many at most have left, too.
pub record Round (shared : List TableId) (few : ℕ) (old : List Sealed) (history : List Entry) (new : List Sealed)
    (later : List Entry) : Type 0 where
  pub events : List Event
  pub leads : Leads shared events history old later new
  pub certain : List Sealed
  pub doubtful : List Sealed
  pub came : came_in events ≡ certain ++ doubtful
  pub settled : (s : Sealed) → Contains certain s → Contains (left_in events) s
  pub at_most : length doubtful ≤ few

-- what is left is the rear of what there was
abbrev pub IsRestOf : List Sealed → List Sealed → Type 0
IsRestOf old new = (gone : List Sealed) × (old ≡ gone ++ new)

-- a round over what a site holds: its slots stay
pub record HoldsRound (shared : List TableId) (few : ℕ) (old new : List Sealed) (before after : Held) : Type 0 where
  pub slots : after.slots ≡ before.slots
  pub round : Round shared few old before.history new after.history

-- the same where a site tells what it holds
abbrev pub TellsRound : List TableId → Option Held → Option Held → ℕ → List Sealed → List Sealed → Type 0
TellsRound shared told told' few old new = Told told told' (HoldsRound shared few old new)

abbrev pub RoundTold : SiteState → SiteState → ℕ → List Sealed → List Sealed → Type 0
RoundTold before after few old new = TellsRound before.shared before.held after.held few old new

-- of how many transactions the entry may have come without a receipt: of one where a call of the bank failed
abbrev pub doubts_at : RoundFault → ℕ
doubts_at stop.Failed = 1
doubts_at stop.Memory = 0
doubts_at (stop.Differs table key) = 0

abbrev pub doubts : Result ℕ RoundFault → ℕ
doubts (Ok n) = 0
doubts (Err fault) = doubts_at fault

-- the first that is left isn't in the history and doesn't apply behind it: this row of this table is the first that
-- differs
pub record FirstDiffers (table : TableId) (key : List Value) (s : Sealed) (history : List Entry) : Type 0 where
  pub fresh : has_ticket s.ticket.0 history ≡ false
  pub fails : state_of (history ++ entry_of s ∷ []) ≡ None
  pub row : Option (List Value)
  pub first : IsFirstDifference (table, key, row) s.ops history

-- It was so of the history as it was tried; only transactions of others came behind.
pub record DifferedAt (shared : List TableId) (table : TableId) (key : List Value) (unsettled : List Sealed)
    (history : List Entry) : Type 0 where
  pub front : List Entry
  pub behind : List Entry
  pub is : history ≡ front ++ behind
  pub others : AreOthers shared front behind
  pub one : Sealed
  pub there : IsFirst one unsettled
  pub first : FirstDiffers table key one front

-- What the bank does for one unsettled transaction: it comes now, or it came before; at a fault it may have come, and
-- for want of memory, or where a row differs, it doesn't.
abbrev pub Settles : Sealed → Result (Unit {0}) RoundFault → List Entry → List Entry → Type 0
Settles s (Ok done) old new = Comes s [] old new ⊎ ((has_ticket s.ticket.0 old ≡ true) × Grows [] old new)
Settles s (Err stop.Failed) old new = Grows [] old new ⊎ Comes s [] old new
Settles s (Err stop.Memory) old new = Grows [] old new
Settles s (Err (stop.Differs table key)) old new = FirstDiffers table key s old × Grows [] old new

-- A failed call of the bank has its cause; want of memory needs none. The count of the disk's faults, and the tables
-- that others change, stay.
pub record RoundHasCause {T : Type 0} (before after : SiteState) (result : Result T RoundFault) : Type 0 where
  pub later : before.bank_faults ≤ after.bank_faults
  pub failed : IsErrOf result stop.Failed → Rose before.bank_faults after.bank_faults
  pub disk : after.disk_faults ≡ before.disk_faults
  pub shared : after.shared ≡ before.shared

-- others change none of these tables
abbrev pub AreUnshared : List TableId → List TableId → Type 0
AreUnshared live shared = (t : TableId) → is_shared shared t ≡ true → is_one_of live t ≡ false
