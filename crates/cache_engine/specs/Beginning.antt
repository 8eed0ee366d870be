-- How a tier begins over a backing database without transactions of a tier. (This project's model.)

use Rattle.std.specs.Prelude.{◌≡◌, ℕ, ◌≤◌, List, [], ◌++◌, Option, Some, false, Result, Ok, Err}
use Rattle.tier_base.specs.declared.number.Moment.{Moment}
use Rattle.tier_base.specs.declared.number.TableId.{TableId}
use Rattle.table_defs.specs.declared.definition.TableDef.{TableDef}
use Rattle.table_state.specs.declared.history.Entry.{Entry}
use Rattle.table_state.specs.Histories.{state_of}
use Rattle.table_state.specs.Tables.{TableState}
use Rattle.pending_writes.specs.Noting.{TellsWriters}
use Rattle.order_laws.specs.Steps.{MayBegin}
use Rattle.outside.specs.Holding.{Held}
use Rattle.outside.specs.Others.{AreOthers}
use Rattle.outside.specs.declared.fault.BankError.{BankError}
use Rattle.cache_tier.specs.Journals.{no_journal}
use Rattle.cache_tier.specs.TierStates.{Settings, cut, opened}
use Rattle.cache_tier.specs.Worlds.{World}
use Rattle.group_catalog.specs.Catalogs.{groups_in}
use Rattle.open_sessions.specs.Opening.{seen_all}
use Rattle.stored_tier.specs.declared.clock.TierClock.{TierClock}
use Rattle.stored_tier.specs.declared.tier.Tier.{Tier as Stored}
use Rattle.stored_tier.specs.Performing.{KeepsSlots, StandsFor}
use Rattle.outside.specs.Sites.{SiteState}
use Rattle.stored_tier.specs.declared.clock.Pace.{Pace}
use Rattle.stored_tier.specs.Stored.{pace_of}

-- the world of a tier that is opened at a site with this history, which leaves this state; there is no journal
abbrev pub opened_world : Settings → ℕ → TableState → List Entry → SiteState → World
opened_world settings start s history site =
    record {
      tier = opened settings start s.schema;
      history = history;
      journal = no_journal;
      bank_faults = site.bank_faults;
      disk_faults = 0;
      moment = site.moment;
      shared = site.shared;
    }

-- the tier stands for an opened one, whose settings have this pace
abbrev pub IsOpened : Stored → Moment → Pace → List Entry → SiteState → Type 0
IsOpened t start pace history site =
    (settings : Settings) (s : TableState) → pace_of settings ≡ pace → state_of history ≡ Some s
    → MayBegin history 1 → StandsFor t (opened_world settings start.0 s history site)

-- what the site tells that it holds: transactions of others came, and the tier is opened over that
pub record IsBegun (t : Stored) (start : Moment) (pace : Pace) (before behind : SiteState) (there : Held)
    : Type 0 where
  pub held : Held
  pub told : behind.held ≡ Some held
  pub others : List Entry
  pub came : AreOthers before.shared there.history others
  pub is : held.history ≡ there.history ++ others
  pub opened : IsOpened t start pace held.history behind

abbrev pub Begins : Moment → Pace → SiteState → SiteState → Result Stored BankError → Type 0
Begins start pace before behind (Ok t) =
    (there : Held) → before.held ≡ Some there → IsBegun t start pace before behind there
Begins start pace before behind (Err e) = Unit {0}

-- transactions of others alone came to what the site holds
pub record OthersCame (shared : List TableId) (there : Held) (held : Option Held) : Type 0 where
  pub now : Held
  pub told : held ≡ Some now
  pub others : List Entry
  pub came : AreOthers shared there.history others
  pub is : now.history ≡ there.history ++ others

-- the count of faults and the moment don't fall, what others change stays, and so do the slots
pub record BeginsAt (before behind : SiteState) : Type 0 where
  pub later : before.bank_faults ≤ behind.bank_faults
  pub moment : before.moment ≤ behind.moment
  pub shares : behind.shared ≡ before.shared
  pub slots : KeepsSlots before.held behind.held
  pub others : (there : Held) → before.held ≡ Some there → OthersCame before.shared there behind.held

-- the clock of a tier that is opened at this moment
pub record IsNewClock (c : TierClock) (start : ℕ) (pace : Pace) : Type 0 where
  pub now : c.now ≡ cut start
  pub added : c.added ≡ 0
  pub round : c.round ≡ cut start
  pub sets : c.sets.items ≡ []
  pub due : c.pace ≡ pace

-- the tier knows this schema, before its first line; no session is open, and there is no group
pub record IsFresh (t : Stored) (schema : List TableDef) (start : ℕ) (pace : Pace) : Type 0 where
  pub schema_is : t.schema ≡ schema
  pub told : t.stale ≡ false
  pub groups : groups_in t.catalog ≡ []
  pub stores : t.stores.items ≡ []
  pub hidden : t.hidden.items ≡ []
  pub sessions : seen_all t.sessions ≡ []
  pub unsettled : t.unsettled.items ≡ []
  pub writers : (known : List TableDef) (first : ℕ) → TellsWriters known first [] t.writers
  pub next : t.next ≡ 1
  pub clock : IsNewClock t.clock start pace
  pub judged : t.verified ≡ false
