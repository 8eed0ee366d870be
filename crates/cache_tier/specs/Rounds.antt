-- A round of propagation: the tail is flushed, the unsettled transactions are applied at the bank, in an order that
-- keeps conflicting ones in commit order, and a long journal is rotated. (TimesTen Cache User's Guide: asynchronous
-- writethrough; the round, by one thread or several, is this project's.)

use Rattle.std.specs.Prelude.{◌≡◌, ◌+◌, ◌-◌, ◌^◌, ◌≤◌, min, nat_lt, List, [], ◌∷◌, ◌++◌, Bool, true, not, Option, Some, None, length}
use Rattle.std.specs.List.{filter, Contains}
use Rattle.row_types.specs.declared.value.Value.{Value}
use Rattle.row_types.specs.declared.rule.Detail.TheVariants as detail
use Rattle.tier_base.specs.declared.code.Code.TheVariants as code
use Rattle.tier_base.specs.declared.number.TableId.{TableId}
use Rattle.table_defs.specs.declared.definition.TableDef.{TableDef}
use Rattle.table_state.specs.declared.history.Entry.{Entry}
use Rattle.table_state.specs.declared.history.Entry.TheVariants.{Definition, Foreign, Own}
use Rattle.table_state.specs.declared.history.Sealed.{Sealed}
use Rattle.table_state.specs.Histories.{state_of, entry_of}
use Rattle.table_state.specs.Tables.{TableState, table_at}
use Rattle.outside.specs.Others.{AreOthers}
use Rattle.cache_tier.specs.JournalSteps.{Flushes}
use Rattle.cache_tier.specs.Rotations.{RotatesIfLong}
use Rattle.cache_tier.specs.declared.reply.Reply.{Reply}
use Rattle.cache_tier.specs.declared.reply.Last.TheVariants.{Done, Fault}
use Rattle.order_laws.specs.Commits.{KeepsOrder, Once, conflicting, pending}
use Rattle.cache_tier.specs.Commits.{in_commit_order}
use Rattle.cache_tier.specs.Groups.{Group, covers, is_writethrough}
use Rattle.cache_tier.specs.Reading.{Answers}
use Rattle.cache_tier.specs.Routes.{table_name}
use Rattle.cache_tier.specs.TierStates.{Tier}
use Rattle.cache_tier.specs.Worlds.{OnlyWhere, Part, Stage, Then, ThenStage, World, faulty, only}

-- behind the front come the entries of these transactions, in their order, and transactions of others between them
abbrev pub Mixes : List TableId → List Sealed → List Entry → List Entry → Type 0
Mixes shared own front [] = own ≡ []
Mixes shared own front (Definition def ∷ tail) = ⊥
Mixes shared own front (Foreign ops ∷ tail) = AreOthers shared front (Foreign ops ∷ [])
    × Mixes shared own (front ++ Foreign ops ∷ []) tail
Mixes shared own front (Own ticket ops ∷ tail) =
    (first : Sealed) × (rest : List Sealed) × (own ≡ first ∷ rest) × (Own ticket ops ≡ entry_of first)
    × Mixes shared rest (front ++ Own ticket ops ∷ []) tail

-- These transactions come to the history, each of them pending before, once, and conflicting ones in commit order; and
-- transactions of others between them.
pub record Comes (shared : List TableId) (schema : List TableDef) (unsettled came : List Sealed)
    (history later : List Entry) : Type 0 where
  pub tail : List Entry
  pub is : later ≡ history ++ tail
  pub mixes : Mixes shared came history tail
  pub were_pending : (s : Sealed) → Contains came s → Contains (pending history unsettled) s
  pub once : Once history → Once later
  pub order : KeepsOrder (conflicting schema) unsettled history tail

-- why a round ends
pub data RoundEnd : Type 0 where
  -- each of its transactions has a receipt
  Drained : RoundEnd
  -- a call of the bank failed
  Failing : RoundEnd
  -- memory was wanting
  Wanting : RoundEnd
  -- a row at the bank isn't as a transaction says: its table and key
  Differing : TableId → List Value → RoundEnd

abbrev pub round_stop : Tier → RoundEnd → Option Reply
round_stop t Drained = None
round_stop t Failing = Some (faulty code.BackingFault)
round_stop t Wanting = Some (faulty code.Memory)
round_stop t (Differing table key) =
    Some (only (Fault (record { code = code.RowDiffers; detail = detail.Row (table_name t table) key })))

abbrev pub AllLeft : RoundEnd → List Sealed → Type 0
AllLeft Drained rest = rest ≡ []
AllLeft Failing rest = Unit {0}
AllLeft Wanting rest = Unit {0}
AllLeft (Differing table key) rest = Unit {0}

-- The unsettled transactions are applied at the bank. Those that got a receipt leave, and stand in the history. Of
-- others the entry may have come, of at most as many as calls have failed.
pub record Applies (w w' : World) (stop : Option Reply) : Type 0 where
  pub result : RoundEnd
  pub came : List Sealed
  pub left : Sealed → Bool
  pub comes : Comes w.shared w.tier.schema w.tier.unsettled came w.history w'.history
  pub tier : w'.tier ≡ record w.tier { unsettled = filter (λ s. not (left s)) w.tier.unsettled; round = w.tier.now }
  pub settled : pending w'.history (filter left w.tier.unsettled) ≡ []
  pub bank : w.bank_faults ≤ w'.bank_faults
  pub unsure : min (w.bank_faults + length (filter (λ s. not (left s)) came)) (2 ^ 64 - 1) ≤ w'.bank_faults
  pub all : AllLeft result w'.tier.unsettled
  pub journal : w'.journal ≡ w.journal
  pub disk : w'.disk_faults ≡ w.disk_faults
  pub moment : w.moment ≤ w'.moment
  pub shared : w'.shared ≡ w.shared
  pub end : stop ≡ round_stop w.tier result

-- the rotation comes behind a round that ended with a fault, too: of two ends the disk's counts
abbrev pub both_stop : Option Reply → Option Reply → Option Reply
both_stop one (Some disk) = Some disk
both_stop one None = one

pub record AppliesAndRotates (w w' : World) (stop : Option Reply) : Type 0 where
  pub mid : World
  pub applied : Option Reply
  pub turned : Option Reply
  pub applies : Applies w mid applied
  pub rotates : RotatesIfLong mid w' turned
  pub end : stop ≡ both_stop applied turned

-- a round: the tail is flushed first
abbrev pub Round : Stage
Round = ThenStage (Flushes []) AppliesAndRotates

-- a round, where a transaction is unsettled
abbrev pub is_unsettled : World → Bool
is_unsettled w = nat_lt 0 (length w.tier.unsettled)

abbrev pub RoundIfUnsettled : Stage
RoundIfUnsettled w w' stop = OnlyWhere (is_unsettled w) Round w w' stop

-- nothing is pending, and each live writethrough group's tables are all its transactions in commit order
abbrev pub HasInOrder : List Entry → List Sealed → Group → Type 0
HasInOrder history log g =
    (s ordered : TableState) → state_of history ≡ Some s → in_commit_order g history log ≡ Some ordered
    → (t : TableId) → covers t g ≡ true → table_at s t ≡ table_at ordered t

pub record IsDrained (w : World) : Type 0 where
  pub settled : pending w.history w.tier.log ≡ []
  pub ordered : (g : Group) → Contains w.tier.groups g → is_writethrough g ≡ true → HasInOrder w.history w.tier.log g

-- ttDrain: how many left
abbrev pub Drains : Part
Drains w w' reply = Then Round (Answers (λ mid. (mid.tier, only (Done (length w.tier.unsettled))))) w w' reply
