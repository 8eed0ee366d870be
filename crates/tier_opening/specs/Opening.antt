-- A tier that is opened over the journal and the backing database that a site holds. (TimesTen Cache User's Guide,
-- "Recovery"; the journal is this project's.)

use Rattle.std.specs.Prelude.{◌≡◌, ◌≤◌, ℕ, List, ◌++◌, Some, None, false, length}
use Rattle.table_defs.specs.declared.definition.TableDef.{TableDef}
use Rattle.table_state.specs.declared.history.Entry.{Entry}
use Rattle.tier_base.specs.declared.number.TableId.{TableId}
use Rattle.table_state.specs.Histories.{has_ticket, state_of}
use Rattle.table_state.specs.Tables.{TableState}
use Rattle.outside.specs.Calls.{Certain}
use Rattle.outside.specs.Holding.{Held, Slots}
use Rattle.outside.specs.Others.{AreOthers}
use Rattle.outside.specs.Sites.{SiteState}
use Rattle.commit_journal.specs.Layout.{HaveBytes, Placed, Reads}
use Rattle.commit_journal.specs.Opening.{IsBlank}
use Rattle.cache_tier.specs.Journals.{Journal, JournalEntry}
use Rattle.cache_tier.specs.TierStates.{Settings, Tier, opened}
use Rattle.cache_tier.specs.WayPoints.{with_way}
use Rattle.cache_tier.specs.Worlds.{IsUnshared, World}
use Rattle.tier_journal.specs.declared.journal.TierJournal.{TierJournal}
use Rattle.tier_journal.specs.Opening.{StandForAll, opened_journal}
use Rattle.tier_journal.specs.KeptOver.{IsOver}
use Rattle.recovery.specs.Recalling.{AreMatched, RecallsAll, recalled}
use Rattle.recovery.specs.Reopening.{Reopens, with_sets_begun}
use Rattle.stored_tier.specs.declared.tier.Tier.{Tier as Stored}
use Rattle.stored_tier.specs.Performing.{StandsFor}
use Rattle.stored_tier.specs.Sites.{IsAt}
use Rattle.stored_tier.specs.declared.clock.Pace.{Pace}
use Rattle.stored_tier.specs.Stored.{pace_of}

-- the slots of the disk say these entries, whose tables are the schema's
pub record Say (schema : List TableDef) (slots : Slots) (entries : List JournalEntry) : Type 0 where
  pub placed : List Placed
  pub reads : Reads slots placed None
  pub stand : StandForAll schema entries placed

-- the tier that the entries leave over the history, as it begins
abbrev pub begun_tier : List TableDef → List JournalEntry → List Entry → Tier → Tier
begun_tier schema entries history catalog = with_sets_begun (recalled schema entries history catalog)

-- a tier in its world, beside a site in this state
abbrev pub world_of : Tier → List Entry → Journal → SiteState → World
world_of tier history journal site =
    record {
      tier = tier;
      history = history;
      journal = journal;
      bank_faults = site.bank_faults;
      disk_faults = site.disk_faults;
      moment = site.moment;
      shared = site.shared;
    }

-- The world in which the tier begins: transactions of others have come to the history that was held; the journal has
-- the entries that the slots say, and a way of it has begun, at a moment since the opening began; and the tier is what
-- the entries leave.
pub record BeginsIn (settings : Settings) (moment : ℕ) (o : Held) (k : TierJournal) (w : World) : Type 0 where
  pub others : List Entry
  pub came : AreOthers w.shared o.history others
  pub history : w.history ≡ o.history ++ others
  pub schema : List TableDef
  pub known : (s : TableState) → state_of w.history ≡ Some s → s.schema ≡ schema
  pub entries : List JournalEntry
  pub say : Say schema o.slots entries
  pub since : ℕ
  pub from : ℕ
  pub least : length o.history ≤ from
  pub most : from ≤ length w.history
  pub journal : w.journal ≡ with_way since from (opened_journal k entries)
  pub catalog : Tier
  pub recalls : RecallsAll entries (opened settings moment schema) catalog
  pub tier : w.tier ≡ begun_tier schema entries w.history catalog

-- Where the way of an opened journal begins: where the opening does, as long as a crash then leaves just what the site
-- tells; or where the journal was found.
pub data Onset : Type 0 where
  AtOpening : Onset
  AtJournal : Onset

-- a crash where the opening begins leaves just what the site tells, if the way begins there
abbrev pub IsSure : Onset → (Held → Type 0) → Held → Type 0
IsSure AtOpening certain o = certain o
IsSure AtJournal certain o = Unit {0}

-- the moment at which the way begins, of those of the opening and of the journal
abbrev pub onset_moment : Onset → ℕ → ℕ → ℕ
onset_moment AtOpening opening journal = opening
onset_moment AtJournal opening journal = journal

-- and the history then
abbrev pub onset_history : Onset → List Entry → List Entry → List Entry
onset_history AtOpening opening journal = opening
onset_history AtJournal opening journal = journal

-- The way of the journal of this world begins there, of an opening that began at this moment.
pub record StartsAt (onset : Onset) (began : ℕ) {settings : Settings} {moment : ℕ} {o : Held} {k : TierJournal}
    {w : World} (b : BeginsIn settings moment o k w) : Type 0 where
  pub since : b.since ≡ onset_moment onset began w.moment
  pub from : b.from ≡ length (onset_history onset o.history w.history)

-- The tier was opened again: it stands for this world, at the site, and the journal is kept over the disk.
pub record IsOpenedIn {D : Type 0} (state : D → SiteState) (possible : D → ℕ → Held → Type 0) (begun : World)
    (t : Stored) (k : TierJournal) (d : D) : Type 0 where
  pub world : World
  pub at : IsAt (state d) world
  pub stands : StandsFor t world
  pub keeps : IsOver state possible d k world
  pub reopens : Reopens begun world None

-- So it is where the entries and the history belong together, and others change no table of a writethrough group. The
-- way of the journal begins as is asked, of an opening that began over a site in this state.
pub record IsOpened {D : Type 0} (state : D → SiteState) (possible : D → ℕ → Held → Type 0) (onset : Onset)
    (settings : Settings) (moment : ℕ) (before : SiteState) (o : Held) (t : Stored) (k : TierJournal) (d : D)
    : Type 0 where
  pub begun : World
  pub shares : begun.shared ≡ before.shared
  pub begins : BeginsIn settings moment o k begun
  pub starts : StartsAt onset before.moment begins
  pub opened : AreMatched begins.entries begun.history → IsUnshared begun → IsOpenedIn state possible begun t k d

-- the same for each settings with this pace, where the site tells what it holds
abbrev pub Opens : {D : Type 0} → (D → SiteState) → (D → ℕ → Held → Type 0) → ℕ → Pace → D → D → Stored → TierJournal
    → Type 0
Opens state possible moment pace d d' t k =
    (onset : Onset) (o : Held) (settings : Settings) → (state d).held ≡ Some o → HaveBytes o.slots
    → IsSure onset (Certain state possible d) o → pace_of settings ≡ pace
    → IsOpened state possible onset settings moment (state d) o t k d'

-- Journal and history belong together: whatever others do in the opening, the entries that the slots say match the
-- history, and others change no table of a writethrough group that they leave.
abbrev pub MayOpen : List TableId → Held → Type 0
MayOpen shared o =
    (settings : Settings) (moment : ℕ) (k : TierJournal) (w : World) (b : BeginsIn settings moment o k w)
    → w.shared ≡ shared → AreMatched b.entries w.history × IsUnshared w

-- no slot is live, and no transaction of a tier stands in the history, which leaves a state
pub record IsNewSite (o : Held) : Type 0 where
  pub blank : IsBlank o.slots
  pub state : TableState
  pub leaves : state_of o.history ≡ Some state
  pub none : (ticket : ℕ) → has_ticket ticket o.history ≡ false
