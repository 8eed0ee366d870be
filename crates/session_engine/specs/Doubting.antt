-- A transaction of which nobody knows whether it came. (TimesTen Cache User's Guide, "Synchronous writethrough"; that
-- its ticket is in doubt until the backing database has told is this project's rule.)

use Rattle.std.specs.Prelude.{◌≡◌, ℕ, ◌+◌, ◌≤◌, ◌^◌, List, [], Option, Some, None, false, true, Result, Err, length}
use Rattle.tier_base.specs.declared.number.SessionId.{SessionId}
use Rattle.row_types.specs.declared.rule.Refused.{Refused}
use Rattle.outside.specs.Bank.{AppliesOnce}
use Rattle.evaluator.specs.declared.change.Change.{Change}
use Rattle.outside.specs.Holding.{Held}
use Rattle.outside.specs.Passing.{PassesWrite}
use Rattle.outside.specs.Sites.{SiteState}
use Rattle.tier_journal.specs.declared.journal.TierJournal.{TierJournal}
use Rattle.tier_journal.specs.KeptOver.{KeepsOver, KeepsUnlessBroken, is_broken}
use Rattle.outside.specs.declared.fault.BankError.TheVariants.{Failed}
use Rattle.order_laws.specs.Commits.{KeepsCommitOrder}
use Rattle.table_state.specs.declared.operation.Op.{Op}
use Rattle.cache_tier.specs.CommitSteps.{after_applied, sealed_own}
use Rattle.cache_tier.specs.Groups.{is_synchronous}
use Rattle.cache_tier.specs.PassedSteps.{after_passed, with_ticket}
use Rattle.cache_tier.specs.Routes.{is_written_through}
use Rattle.cache_tier.specs.StandingBetween.{AreReadAt}
use Rattle.cache_tier.specs.TierStates.{Session}
use Rattle.cache_tier.specs.Worlds.{BankCall, IsUnshared, Part, World}
use Rattle.cache_tier.specs.declared.reply.Reply.{Reply}
use Rattle.stored_tier.specs.declared.tier.Tier.{Tier as Stored}
use Rattle.stored_tier.specs.Performing.{StandsFor, reply_of}
use Rattle.stored_tier.specs.Sites.{IsAt}
use Rattle.stored_tier.specs.Stored.{HasSession, are_on}
use Rattle.open_sessions.specs.Lookups.{open_ops}
use Rattle.open_sessions.specs.Opening.{seen_all}
use Rattle.group_catalog.specs.Catalogs.{groups_in}
use Rattle.statement_uses.specs.Touching.{HaveEntered}
use Rattle.session_engine.specs.Committing.{HaveRoomFor, SparesHidden, bare_all}
use Rattle.session_engine.specs.Using.{Uses}
use Rattle.session_engine.specs.declared.doubt.Doubt.{Doubt}
use Rattle.session_engine.specs.declared.doubt.Doubted.{Doubted}
use Rattle.session_engine.specs.declared.doubt.Doubted.TheVariants.{Commit, PassedWrite}

-- The commit of a session is in doubt in this world: it came of one for which the tier stood, but for the ticket, by a
-- call that failed. The session's writes are on tables of synchronous groups. What has committed in the cache stands in
-- commit order all the same, and groups are read at lengths that the history had.
pub record CommitIsInDoubt (t : Stored) (d : Doubt) (w : World) : Type 0 where
  pub was : World
  pub stands : StandsFor (record t { next = d.ticket }) was
  pub unshared : IsUnshared was
  pub session : Session
  pub has : HasSession t d.session session
  pub on : are_on is_synchronous was.tier.groups session.own ≡ true
  pub next : t.next ≡ d.ticket + 1
  pub room : d.ticket + 1 ≤ 2 ^ 63
  pub call : BankCall (AppliesOnce (sealed_own was.tier session) [] (Err Failed)) was w
  pub tier : w.tier ≡ after_applied (sealed_own was.tier session) session.label (Err Failed) (with_ticket was.tier)
  pub legal : KeepsCommitOrder w.history w.tier.log
  pub read : AreReadAt (length w.history) w.tier.groups

-- A write that was passed on is in doubt in this world: it came of one for which the tier stood, but for the ticket, by
-- a call that failed. Its table is of no writethrough group. Commit order and lengths are as above.
pub record WriteIsInDoubt (t : Stored) (d : Doubt) (w : World) : Type 0 where
  pub was : World
  pub stands : StandsFor (record t { next = d.ticket }) was
  pub unshared : IsUnshared was
  pub session : Session
  pub has : HasSession t d.session session
  pub next : t.next ≡ d.ticket + 1
  pub room : d.ticket + 1 ≤ 2 ^ 63
  pub change : Change
  pub off : is_written_through was.tier change.table ≡ false
  pub ops : List Op
  pub call : BankCall (PassesWrite was.tier.next change ops (Err Failed)) was w
  pub tier : w.tier ≡ after_passed session was.tier.next ops (Err Failed) (with_ticket was.tier)
  pub legal : KeepsCommitOrder w.history w.tier.log
  pub read : AreReadAt (length w.history) w.tier.groups

abbrev pub IsInDoubt : Doubted → Stored → Doubt → World → Type 0
IsInDoubt (Commit ops) t d w = CommitIsInDoubt t d w
IsInDoubt PassedWrite t d w = WriteIsInDoubt t d w

-- the tier stands for the world's, or a ticket is in doubt there
abbrev pub IsLeft : Stored → Option Doubt → World → Type 0
IsLeft t None w = StandsFor t w
IsLeft t (Some d) w = IsInDoubt d.of t d w

-- What the session has written is kept with its ticket, and the stores have room for it. So are the root keys that it
-- enters, and no hidden key is of it.
pub record IsReadyCommit (ops : List Op) (entered : Uses) (id : SessionId) (t : Stored) : Type 0 where
  pub own : ops ≡ open_ops id (seen_all t.sessions)
  pub room : HaveRoomFor (length ops) t.stores.items
  pub have : HaveEntered (groups_in t.catalog) (bare_all t.stores.items) ops entered
  pub spared : SparesHidden (groups_in t.catalog) ops

abbrev pub IsReadyFor : Doubted → Uses → SessionId → Stored → Type 0
IsReadyFor (Commit ops) entered id t = IsReadyCommit ops entered id t
IsReadyFor PassedWrite entered id t = Unit {0}

abbrev pub IsReady : Stored → Option Doubt → Type 0
IsReady t None = Unit {0}
IsReady t (Some d) = IsReadyFor d.of d.entered d.session t

-- a world at the site behind, in which the new tier is left so, and which comes so
pub record IsEnded (new : Stored) (doubt : Option Doubt) (site : SiteState) (does : World → Type 0) : Type 0 where
  pub world : World
  pub at : IsAt site world
  pub left : IsLeft new doubt world
  pub is : does world

-- For each world at the site before, in which the old tier is left so, and in which others leave the tables of
-- writethrough groups alone.
abbrev pub Leads : Stored → Option Doubt → Stored → Option Doubt → SiteState → SiteState → (World → World → Type 0)
    → Type 0
Leads old was new doubt before behind does =
    (w : World) → IsAt before w → IsLeft old was w → IsUnshared w → IsEnded new doubt behind (does w)

-- from a tier that stands
abbrev pub Ends : Stored → Stored → Option Doubt → SiteState → SiteState → (World → World → Type 0) → Type 0
Ends old new doubt before behind does = Leads old None new doubt before behind does

-- so it is of a part of a session's line, where the session has this number
abbrev pub EndsIn : Stored → Stored → Option Doubt → SiteState → SiteState → SessionId → (Session → Part)
    → Result Reply Refused → Type 0
EndsIn old new doubt before behind id part result =
    (s : Session) → HasSession old id s → Ends old new doubt before behind (λ w w'. part s w w' (reply_of result))

-- ---- where the journal may be written to

-- A world at the site behind, which comes so. A crash leaves a point of its journal's way. Unless a call of the disk
-- failed in it, the new tier is left so, and the journal is kept over the disk.
pub record IsEndedOver {D : Type 0} (state : D → SiteState) (possible : D → ℕ → Held → Type 0) (new : Stored)
    (doubt : Option Doubt) (k : Option TierJournal) (d : D) (stop : Option Reply) (does : World → Type 0) : Type 0
  where
    pub world : World
    pub at : IsAt (state d) world
    pub is : does world
    pub left : is_broken stop ≡ false → IsLeft new doubt world
    pub keeps : KeepsUnlessBroken state possible d stop k world

-- for each world at the site before, in which the old tier is left so, and over whose disk the old journal is kept
abbrev pub LeadsOver : {D : Type 0} → (D → SiteState) → (D → ℕ → Held → Type 0) → Stored → Option Doubt → Stored
    → Option Doubt → Option TierJournal → Option TierJournal → D → D → Option Reply → (World → World → Type 0) → Type 0
LeadsOver state possible old was new doubt k k' d d' stop does =
    (w : World) → IsAt (state d) w → IsLeft old was w → IsUnshared w → KeepsOver state possible d k w
    → IsEndedOver state possible new doubt k' d' stop (does w)

-- from a tier that stands
abbrev pub EndsOver : {D : Type 0} → (D → SiteState) → (D → ℕ → Held → Type 0) → Stored → Stored → Option Doubt
    → Option TierJournal → Option TierJournal → D → D → Option Reply → (World → World → Type 0) → Type 0
EndsOver state possible old new doubt k k' d d' stop does =
    LeadsOver state possible old None new doubt k k' d d' stop does

-- so it is of a part of a session's line, where the session has this number
abbrev pub EndsInOver : {D : Type 0} → (D → SiteState) → (D → ℕ → Held → Type 0) → Stored → Stored → Option Doubt
    → Option TierJournal → Option TierJournal → D → D → SessionId → (Session → Part) → Result Reply Refused → Type 0
EndsInOver state possible old new doubt k k' d d' id part result =
    (s : Session) → HasSession old id s
    → EndsOver state possible old new doubt k k' d d' (Some (reply_of result))
    (λ w w'. part s w w' (reply_of result))
