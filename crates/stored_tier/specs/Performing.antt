-- That the stored tier stands for the one of a world, and that what is done to it is what the abstract tier does. (This
-- project's model.)

use Rattle.std.specs.Prelude.{◌≡◌, ◌⊎◌, ℕ, ◌≤◌, nat_eq, List, [], ◌∷◌, ◌++◌, Option, Some, None, true, false, Bool, Result, Ok, Err}
use Rattle.std.specs.List.{list_any}
use Rattle.tier_base.specs.declared.code.Code.TheVariants as code
use Rattle.tier_base.specs.declared.number.SessionId.{SessionId}
use Rattle.row_types.specs.declared.rule.Refused.{Refused}
use Rattle.row_types.specs.declared.rule.Refused.TheVariants as refused
use Rattle.tier_base.specs.declared.number.TableId.{TableId}
use Rattle.table_state.specs.declared.history.Sealed.{Sealed}
use Rattle.table_state.specs.declared.operation.Op.{Op}
use Rattle.table_state.specs.Operations.{table_of}
use Rattle.outside.specs.Faults.{Rose}
use Rattle.outside.specs.Holding.{Held}
use Rattle.sql_subset.specs.declared.stmt.Stmt.{Stmt}
use Rattle.sql_subset.specs.declared.request.OpenOptions.{OpenOptions}
use Rattle.cache_tier.specs.declared.reply.Last.TheVariants.{Done, No}
use Rattle.cache_tier.specs.declared.reply.Reply.{Reply}
use Rattle.cache_tier.specs.Order.{refusal}
use Rattle.cache_tier.specs.SessionSteps.{close_answer, open_answer, open_fault}
use Rattle.cache_tier.specs.Steps.{DoesStatement, tells}
use Rattle.cache_tier.specs.TierStates.{Session}
use Rattle.cache_tier.specs.Worlds.{IsUnshared, Part, Quiet, Tries, Unless, World, faulty, only}
use Rattle.cache_tier.specs.StandingBetween.{Stands}
use Rattle.stored_tier.specs.declared.tier.Tier.{Tier as Stored}
use Rattle.stored_tier.specs.Sites.{IsAt}
use Rattle.outside.specs.Sites.{SiteState}
use Rattle.tier_journal.specs.declared.journal.TierJournal.{TierJournal}
use Rattle.tier_journal.specs.KeptOver.{KeepsOver, KeepsUnlessBroken, is_broken}
use Rattle.stored_tier.specs.Stored.{HasSession, HidesRows, IsStoredAs, ShowsRows}

-- an operation of these is on the table
abbrev pub is_written : List Op → TableId → Bool
is_written ops t = list_any (λ op. nat_eq t.0 (table_of op).0) ops

-- an operation of the first ones is on a table of the others
abbrev pub meets : List Op → List Op → Bool
meets ops others = list_any (λ op. is_written others (table_of op)) ops

-- What committed behind some unsettled transactions: more unsettled ones, in their order, and such as were settled at
-- once, which write on no table of an unsettled one before them.
abbrev pub Waits : List Sealed → List Sealed → List Sealed → Type 0
Waits earlier [] unsettled = unsettled ≡ []
Waits earlier (x ∷ behind) unsettled =
    ((rest : List Sealed) × (unsettled ≡ x ∷ rest) × Waits (x ∷ earlier) behind rest)
    ⊎ ((list_any (λ u. meets x.ops u.ops) earlier ≡ false) × Waits earlier behind unsettled)

-- these transactions are the last of all that committed, but for such as were settled at once
pub record AreLast (log unsettled : List Sealed) : Type 0 where
  pub settled : List Sealed
  pub behind : List Sealed
  pub is : log ≡ settled ++ behind
  pub waits : Waits [] behind unsettled

-- The stored tier stands for the one of a world: what is stored is its own, the stored rows are what is shown, those
-- that are hidden are rows of the backing state, and the abstract tier stands in its world. What is unsettled committed
-- last, but for what was settled at once.
pub record StandsFor (t : Stored) (w : World) : Type 0 where
  pub stored : IsStoredAs t w.tier
  pub shows : ShowsRows t w
  pub hides : HidesRows t w.history
  pub stands : Stands w
  pub waits : AreLast w.tier.log w.tier.unsettled

-- a world at the site behind, for which the new tier stands, and which comes so
pub record IsPerformed (new : Stored) (site : SiteState) (does : World → Type 0) : Type 0 where
  pub world : World
  pub at : IsAt site world
  pub stands : StandsFor new world
  pub is : does world

-- For each world at the site before, for which the old tier stands, and in which others leave the tables of
-- writethrough groups alone.
abbrev pub Performs : Stored → Stored → SiteState → SiteState → (World → World → Type 0) → Type 0
Performs old new before behind does =
    (w : World) → IsAt before w → StandsFor old w → IsUnshared w → IsPerformed new behind (does w)

-- The same of what may write to the journal: a world at the site behind, that comes so. A crash leaves a point of its
-- journal's way. Unless a call of the disk failed in it, after which the run ends, the new tier stands for it, and the
-- journal is kept over the disk.
pub record IsPerformedOver {D : Type 0} (state : D → SiteState) (possible : D → ℕ → Held → Type 0) (new : Stored)
    (k : Option TierJournal) (d : D) (stop : Option Reply) (does : World → Type 0) : Type 0 where
  pub world : World
  pub at : IsAt (state d) world
  pub is : does world
  pub stands : is_broken stop ≡ false → StandsFor new world
  pub keeps : KeepsUnlessBroken state possible d stop k world

-- for each world at the site before, for which the old tier stands, and over whose disk the old journal is kept
abbrev pub PerformsOver : {D : Type 0} → (D → SiteState) → (D → ℕ → Held → Type 0) → Stored → Stored
    → Option TierJournal → Option TierJournal → D → D → Option Reply → (World → World → Type 0) → Type 0
PerformsOver state possible old new k k' d d' stop does =
    (w : World) → IsAt (state d) w → StandsFor old w → IsUnshared w → KeepsOver state possible d k w
    → IsPerformedOver state possible new k' d' stop (does w)

-- the reply to a line that was done, or wasn't
abbrev pub reply_of : Result Reply Refused → Reply
reply_of (Ok reply) = reply
reply_of (Err (refused.Rule rule)) = only (No rule)
reply_of (Err refused.Memory) = faulty code.Memory

-- so it is of a part of a session's line, where the session has this number
abbrev pub PerformsIn : Stored → Stored → SiteState → SiteState → SessionId → (Session → Part) → Result Reply Refused
    → Type 0
PerformsIn old new before behind id part result =
    (s : Session) → HasSession old id s → Performs old new before behind (λ w w'. part s w w' (reply_of result))

abbrev pub PerformsInOver : {D : Type 0} → (D → SiteState) → (D → ℕ → Held → Type 0) → Stored → Stored
    → Option TierJournal → Option TierJournal → D → D → SessionId → (Session → Part) → Result Reply Refused → Type 0
PerformsInOver state possible old new k k' d d' id part result =
    (s : Session) → HasSession old id s
    → PerformsOver state possible old new k k' d d' (Some (reply_of result)) (λ w w'. part s w w' (reply_of result))

-- a session's statement: the first rule that refuses it, or what it does; memory may be wanting
abbrev pub Executes : Stmt → Session → Part
Executes st s = Tries (λ w w' reply. Unless (refusal w.tier s st) (DoesStatement s st) w w' reply)

-- the world's journal and the tier's schema stay
pub record StaysWritten (w w' : World) : Type 0 where
  pub journal : w'.journal ≡ w.journal
  pub schema : w'.tier.schema ≡ w.tier.schema

-- a session's statement that writes nothing to the journal
abbrev pub ExecutesUnwritten : Stmt → Session → Part
ExecutesUnwritten st s w w' reply = Executes st s w w' reply × StaysWritten w w'

-- the slots of the disk stay, where they are told
abbrev pub KeepsSlots : Option Held → Option Held → Type 0
KeepsSlots None behind = Unit {0}
KeepsSlots (Some old) None = ⊥
KeepsSlots (Some old) (Some new) = new.slots ≡ old.slots

-- Counts and moments don't fall, and what others change stays. The reply has no notes; it tells a fault of the bank
-- only where the count of its faults rose, and none of the journal.
pub record IsCaused (before behind : SiteState) (reply : Reply) : Type 0 where
  pub later : before.bank_faults ≤ behind.bank_faults
  pub moment : before.moment ≤ behind.moment
  pub shares : behind.shared ≡ before.shared
  pub slots : KeepsSlots before.held behind.held
  pub bare : reply.notes ≡ []
  pub bank : tells code.BackingFault reply.last ≡ true → Rose before.bank_faults behind.bank_faults
  pub disk : tells code.JournalFault reply.last ≡ false

-- The same where the journal may be written to: slots stay where none is kept, and a fault of the journal is told only
-- where one is, and the count of the disk's faults rose, which doesn't fall.
pub record IsCausedOver (k : Option TierJournal) (before behind : SiteState) (reply : Reply) : Type 0 where
  pub later : before.bank_faults ≤ behind.bank_faults
  pub moment : before.moment ≤ behind.moment
  pub shares : behind.shared ≡ before.shared
  pub slots : k ≡ None → KeepsSlots before.held behind.held
  pub bare : reply.notes ≡ []
  pub bank : tells code.BackingFault reply.last ≡ true → Rose before.bank_faults behind.bank_faults
  pub disk_later : before.disk_faults ≤ behind.disk_faults
  pub disk : tells code.JournalFault reply.last ≡ true → Rose before.disk_faults behind.disk_faults
  pub whole : k ≡ None → tells code.JournalFault reply.last ≡ false

-- so it is at each site that isn't called
abbrev pub IsCalm : Reply → Type 0
IsCalm reply = (site : SiteState) → IsCaused site site reply

-- the reply with which a stage ends the line, where it does
abbrev pub stop_of : Result (Unit {0}) Reply → Option Reply
stop_of (Ok done) = None
stop_of (Err reply) = Some reply

-- so it is of a stage, whether it ends the line or not
abbrev pub IsStopCaused : SiteState → SiteState → Option Reply → Type 0
IsStopCaused before behind None = IsCaused before behind (only (Done 0))
IsStopCaused before behind (Some reply) = IsCaused before behind reply

abbrev pub IsStopCausedOver : Option TierJournal → SiteState → SiteState → Option Reply → Type 0
IsStopCausedOver k before behind None = IsCausedOver k before behind (only (Done 0))
IsStopCausedOver k before behind (Some reply) = IsCausedOver k before behind reply

-- OPEN: 113 or 119, or a session more
abbrev pub OpensSession : List ℕ → OpenOptions → Part
OpensSession label options w w' reply =
    Unless (open_fault w.tier label) (Quiet (open_answer w.tier label options)) w w' reply

-- CLOSE: a session less
abbrev pub ClosesSession : Session → Part
ClosesSession s w w' reply = Quiet (close_answer w.tier s.label) w w' reply
