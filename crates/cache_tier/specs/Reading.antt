-- Calls of the bank that read: a snapshot of tables, one instance, one row. What each gives is the state at a
-- position that the history had in the call. (This project's model of the backing database.)

use Rattle.tier_base.specs.declared.code.Code.TheVariants as code
use Rattle.std.specs.Prelude.{◌≡◌, ◌⊎◌, ℕ, List, [], Option, Some, None, length, Result, Ok, Err}
use Rattle.table_state.specs.declared.history.Entry.{Entry}
use Rattle.table_state.specs.Histories.{state_at, no_tables}
use Rattle.table_state.specs.Tables.{TableState}
use Rattle.outside.specs.Bank.{Grows}
use Rattle.outside.specs.declared.fault.BankError.{BankError}
use Rattle.cache_tier.specs.declared.reply.Reply.{Reply}
use Rattle.cache_tier.specs.TierStates.{Tier}
use Rattle.cache_tier.specs.Worlds.{Answer, BankCall, Part, Quiet, Stage, Tries, World, bank_fault, faulty}

-- the position of a call that reads: a length that the history had in it
abbrev pub TellsPosition : Result ℕ BankError → List Entry → List Entry → Type 0
TellsPosition (Ok n) old new = Grows [] old new × (n ≡ length new)
TellsPosition (Err e) old new = Grows [] old new

-- A part that goes on with the position, or the fault of the call. Memory may be wanting for what was read.
abbrev pub FollowsAt : Result ℕ BankError → (ℕ → Part) → Part
FollowsAt (Err e) next w w' reply = (w' ≡ w) × (reply ≡ bank_fault e)
FollowsAt (Ok n) next w w' reply = Tries (next n) w w' reply

-- A call that reads, and what is done with its position. That it was tried may change the tier.
pub record Reads (tried : Tier → Tier) (next : ℕ → Part) (w w' : World) (reply : Reply) : Type 0 where
  pub result : Result ℕ BankError
  pub mid : World
  pub call : BankCall (TellsPosition result) w mid
  pub tier : mid.tier ≡ tried w.tier
  pub goes_on : FollowsAt result next mid w' reply

-- the same before the last part of a line
abbrev pub StageFollowsAt : Result ℕ BankError → (ℕ → Stage) → Stage
StageFollowsAt (Err e) next w w' stop = (w' ≡ w) × (stop ≡ Some (bank_fault e))
StageFollowsAt (Ok n) next w w' stop = next n w w' stop ⊎ ((w' ≡ w) × (stop ≡ Some (faulty code.Memory)))

pub record ReadsFirst (tried : Tier → Tier) (next : ℕ → Stage) (w w' : World) (stop : Option Reply) : Type 0 where
  pub result : Result ℕ BankError
  pub mid : World
  pub call : BankCall (TellsPosition result) w mid
  pub tier : mid.tier ≡ tried w.tier
  pub goes_on : StageFollowsAt result next mid w' stop

-- that it was tried changes nothing
abbrev pub as_it_was : Tier → Tier
as_it_was t = t

-- the state at the position
abbrev pub state_or_none : Option TableState → TableState
state_or_none None = no_tables
state_or_none (Some s) = s

abbrev pub backing_at : World → ℕ → TableState
backing_at w n = state_or_none (state_at w.history n)

-- an answer that is made of what stands there
abbrev pub Answers : (World → Answer) → Part
Answers answer w w' reply = Quiet (answer w) w w' reply
