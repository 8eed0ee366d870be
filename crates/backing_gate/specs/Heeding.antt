-- How calls heed their plans. (This project's rule for sites in memory.)

use Rattle.std.specs.Prelude.{◌≡◌, ◌⊎◌, ℕ, List, [], ◌∷◌, ◌++◌, Option, Some, None, Result, Ok, Err, length, true}
use Rattle.std.specs.Option.{IsSome}
use Rattle.std.specs.Result.{IsErr, IsErrOf}
use Rattle.tier_base.specs.declared.number.TableId.{TableId}
use Rattle.tier_base.specs.declared.number.Ticket.{Ticket}
use Rattle.row_types.specs.declared.value.Value.{Value}
use Rattle.table_state.specs.declared.history.Entry.{Entry}
use Rattle.table_state.specs.declared.refusal.ApplyError.TheVariants as error
use Rattle.table_state.specs.declared.history.Sealed.{Sealed}
use Rattle.table_state.specs.Histories.{entry_of, state_of}
use Rattle.table_state.specs.Tables.{TableState}
use Rattle.evaluator.specs.declared.change.Change.{Change}
use Rattle.transactions.specs.Transactions.{written_by_all}
use Rattle.memory_disk.specs.Possible.{IsIdle, IsUnplanned}
use Rattle.outside.specs.declared.fault.BankError.{BankError}
use Rattle.outside.specs.declared.fault.BankError.TheVariants.{Failed, Memory}
use Rattle.outside.specs.declared.fault.DiskFault.{DiskFault}
use Rattle.outside.specs.declared.disk.Slot.{Slot}
use Rattle.outside.specs.Bank.{CanFollow}
use Rattle.outside.specs.Calls.{Durable, WasCut, Wrote}
use Rattle.outside.specs.Console.{Writes, WritesForeign}
use Rattle.outside.specs.declared.site.Done.{Done}
use Rattle.outside.specs.Others.{are_on_shared}
use Rattle.backing_gate.specs.declared.plan.CallKind.{CallKind}
use Rattle.backing_gate.specs.declared.plan.CallKind.TheVariants.{Foreign}
use Rattle.backing_gate.specs.declared.plan.Outcome.{Outcome}
use Rattle.backing_gate.specs.declared.plan.Outcome.TheVariants as outcome
use Rattle.backing_gate.specs.declared.plan.When.TheVariants as when
use Rattle.backing_gate.specs.declared.visit.Side.{Side}
use Rattle.backing_gate.specs.declared.visit.Side.TheVariants.{Before, Behind}
use Rattle.backing_gate.specs.declared.visit.Visit.{Visit}
use Rattle.backing_gate.specs.Memory.{MemoryState, held_of, moment_of, now_of, possible_of, told_of}
use Rattle.backing_gate.specs.Plans.{one_more, planned_next, with_plan}
use Rattle.backing_gate.specs.Visits.{next_visit, number_behind, with_visit}

-- the bank's history and its count of faults
pub record BankState : Type 0 where
  pub history : List Entry
  pub faults : ℕ

abbrev pub bank_of : MemoryState → BankState
bank_of s = record { history = s.history; faults = s.bank_faults }

-- they stay
abbrev pub IsAsBefore : BankState → BankState → Type 0
IsAsBefore old new = (new.history ≡ old.history) × (new.faults ≡ old.faults)

-- A call without a plan doesn't fail. One whose plan is to fail fails, before or after its effect, and is counted; for
-- the effect memory may be wanting. One whose plan is to be refused wants memory.
abbrev pub Heeds : {T : Type 0} → Option Outcome → BankState → BankState → Result T BankError → Type 0 → Type 0
Heeds None old new result effect = (new.faults ≡ old.faults) × (IsErrOf result Failed → ⊥)
Heeds (Some outcome.Refused) old new result effect = (result ≡ Err Memory) × IsAsBefore old new
Heeds (Some (outcome.Failed when.Before)) old new result effect =
    (result ≡ Err Failed) × (new.history ≡ old.history) × (new.faults ≡ one_more old.faults)
Heeds (Some (outcome.Failed when.After)) old new result effect =
    ((result ≡ Err Failed) × effect × (new.faults ≡ one_more old.faults)) ⊎ ((result ≡ Err Memory) × IsAsBefore old new)

-- the call's own step may have its effect
abbrev pub HasEffect : Option Outcome → Type 0
HasEffect None = Unit {0}
HasEffect (Some outcome.Refused) = ⊥
HasEffect (Some (outcome.Failed when.Before)) = ⊥
HasEffect (Some (outcome.Failed when.After)) = Unit {0}

-- no write meets a row that isn't there as its operation says
abbrev pub NoneDiffers : List Change → List Entry → Type 0
NoneDiffers changes history =
    (s : TableState) (t : TableId) (key : List Value) (row : Option (List Value)) → state_of history ≡ Some s
    → written_by_all changes s ≡ Err (error.Differs t key row) → ⊥

-- these writes of others come: they break no rule, and change shared tables alone
pub record Visits (shared : List TableId) (changes : List Change) (old new : List Entry) : Type 0 where
  pub rows : ℕ
  pub writes : Writes changes rows old new
  pub shares : are_on_shared shared writes.ops ≡ true

-- Nothing comes where nothing is planned. What is planned comes, or doesn't: where its writes break a rule or change
-- another table, and where memory is wanting.
abbrev pub MayVisit : List TableId → Option (List Change) → List Entry → List Entry → Type 0
MayVisit shared None old new = new ≡ old
MayVisit shared (Some changes) old new = (new ≡ old) ⊎ Visits shared changes old new

-- A bank call: what others planned before it, its own step, and what others planned behind it.
pub record Goes (old new : MemoryState) (step : BankState → BankState → Type 0) : Type 0 where
  pub begun : List Entry
  pub done : List Entry
  pub before : MayVisit old.visits.shared (next_visit Before old.visits) old.history begun
  pub own : step (record { history = begun; faults = old.bank_faults })
      (record { history = done; faults = new.bank_faults })
  pub behind : MayVisit old.visits.shared (next_visit Behind old.visits) done new.history

-- the call changed nothing
pub record IsNoMoment (old new : MemoryState) : Type 0 where
  pub past : new.past ≡ old.past
  pub same : new.history ≡ old.history

-- the call changed the history, and its moment is marked by how far the site was before it
pub record MarksMoment (old new : MemoryState) : Type 0 where
  pub past : new.past ≡ old.past ++ now_of old ∷ []
  pub longer : length new.history ≡ length old.history → ⊥

-- a call that changes the history is a moment, and no other call is
abbrev pub IsMoment : MemoryState → MemoryState → Type 0
IsMoment old new = IsNoMoment old new ⊎ MarksMoment old new

-- ---- calls of the disk

-- nothing was done on the disk
pub record IsUndone (old new : MemoryState) : Type 0 where
  pub disk : IsIdle old.disk new.disk
  pub past : new.past ≡ old.past

-- A call that changes the disk, and whose plan is to fail, fails before its effect or after it; for the effect memory
-- may be wanting. One without a plan fails only where memory is wanting, or by a plan of the disk's own, and where it
-- isn't that nothing is done.
abbrev pub HeedsOnDisk : Option Outcome → MemoryState → MemoryState → Result (Unit {0}) DiskFault → Type 0 → Type 0
HeedsOnDisk None old new result effect = IsUnplanned old.disk → IsErr result → IsUndone old new
HeedsOnDisk (Some outcome.Refused) old new result effect = IsErr result × IsUndone old new
HeedsOnDisk (Some (outcome.Failed when.Before)) old new result effect = IsErr result × IsUndone old new
HeedsOnDisk (Some (outcome.Failed when.After)) old new result effect =
    IsErr result × (IsUnplanned old.disk → effect ⊎ IsUndone old new)

-- what a call does to the site
abbrev pub Effect : Type 1
Effect = MemoryState → MemoryState → Type 0

-- the same of a call of this kind, whose plan is the next one for it
abbrev pub HeedsPlan : CallKind → MemoryState → MemoryState → Result (Unit {0}) DiskFault → Effect → Type 0
HeedsPlan kind old new result effect = HeedsOnDisk (planned_next kind old.planned) old new result (effect old new)

-- the next call of this kind has a plan
abbrev pub IsPlanned : CallKind → MemoryState → Type 0
IsPlanned kind s = IsSome (planned_next kind s.planned)

-- these bytes were written at this place
abbrev pub WroteAll : Slot → ℕ → List ℕ → MemoryState → MemoryState → Type 0
WroteAll slot at bytes old new = Wrote {E = DiskFault} slot at bytes (Ok (tt {0})) (held_of old) (held_of new)

-- the slot was cut to so many bytes
abbrev pub WasCutAll : Slot → ℕ → MemoryState → MemoryState → Type 0
WasCutAll slot len old new = WasCut {E = DiskFault} slot len (Ok (tt {0})) (held_of old) (held_of new)

-- the slot is certain
abbrev pub IsSynced : Slot → MemoryState → MemoryState → Type 0
IsSynced slot old new = Durable {E = DiskFault} (told_of old) slot (Ok (tt {0})) (possible_of new (moment_of new))

-- what the bank holds and plans stays
pub record KeepsBank (old new : MemoryState) : Type 0 where
  pub history : new.history ≡ old.history
  pub visits : new.visits ≡ old.visits
  pub bank_faults : new.bank_faults ≡ old.bank_faults

-- ---- the clauses of the site's calls

-- what a bank call does to the history
abbrev pub Step : Type 1
Step = List Entry → List Entry → Type 0

-- a call's own step, with this effect on the history, heeds what it was told
abbrev pub HeedsAs : {T : Type 0} → Option Outcome → MemoryState → MemoryState → Result T BankError → Step → Type 0
HeedsAs outcome old new result effect =
    Heeds outcome (bank_of old) (bank_of new) result (effect old.history new.history)

-- a bank call of this kind comes out as the next plan for it says
abbrev pub GoesAsPlanned : {T : Type 0} → CallKind → MemoryState → MemoryState → Result T BankError → Step → Type 0
GoesAsPlanned kind old new result effect =
    Goes old new (λ begun done.
    Heeds (planned_next kind old.planned) begun done result (effect begun.history done.history))

-- where the transaction can come next, it comes
abbrev pub MustCome : Sealed → List Ticket → Step
MustCome s after begun done = CanFollow s after begun → done ≡ begun ++ entry_of s ∷ []

-- the writes of the console are done, or break a rule
abbrev pub IsWritten : List Change → Step
IsWritten changes begun done = (told : Done) × WritesForeign changes (Ok told) begun done

-- the same of a transaction of the console, where no write meets a row that isn't there as it says
abbrev pub ForeignGoesAsPlanned : List Change → MemoryState → MemoryState → Result Done BankError → Type 0
ForeignGoesAsPlanned changes old new result = Goes old new (λ begun done.
    NoneDiffers changes begun.history
    → Heeds (planned_next Foreign old.planned) begun done result (IsWritten changes begun.history done.history))

-- one plan more
abbrev pub IsPlannedFor : CallKind → ℕ → Outcome → MemoryState → MemoryState → Type 0
IsPlannedFor kind number outcome old new =
    new ≡ record old { planned = with_plan (record { kind = kind; number = number; outcome = outcome }) old.planned }

-- one transaction of others more, for the call that so many calls come before
abbrev pub visit_of : ℕ → Side → List Change → MemoryState → Visit
visit_of calls side changes old = record {
  number = number_behind calls old.visits;
  side = side;
  changes = changes;
}

abbrev pub IsPlannedVisit : ℕ → Side → List Change → MemoryState → MemoryState → Type 0
IsPlannedVisit calls side changes old new =
    new ≡ record old { visits = with_visit (visit_of calls side changes old) old.visits }

-- the entry came, as a moment
abbrev pub IsAdded : Entry → MemoryState → MemoryState → Type 0
IsAdded entry old new =
    new ≡ record old { history = old.history ++ entry ∷ []; past = old.past ++ now_of old ∷ [] }
