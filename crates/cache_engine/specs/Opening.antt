-- An engine that is opened with its journal. (This project's rule; TimesTen Cache User's Guide, "Recovery".)

use Rattle.std.specs.Prelude.{◌≡◌, ℕ, Option, Some, None, Bool, true, false}
use Rattle.outside.specs.Calls.{Certain}
use Rattle.outside.specs.Holding.{Held}
use Rattle.outside.specs.Sites.{SiteState}
use Rattle.commit_journal.specs.Layout.{HaveBytes}
use Rattle.cache_tier.specs.TierStates.{Settings}
use Rattle.cache_tier.specs.Worlds.{World}
use Rattle.tier_journal.specs.declared.journal.TierJournal.{TierJournal}
use Rattle.tier_journal.specs.KeptOver.{KeepsOver}
use Rattle.recovery.specs.Reopening.{Reopens}
use Rattle.stored_tier.specs.declared.clock.Pace.{Pace}
use Rattle.stored_tier.specs.Sites.{IsAt}
use Rattle.stored_tier.specs.Stored.{pace_of}
use Rattle.session_engine.specs.Doubting.{IsLeft}
use Rattle.tier_opening.specs.Opening.{BeginsIn, IsSure, MayOpen, Onset, StartsAt}
use Rattle.cache_engine.specs.declared.engine.Engine.{Engine}

-- The world of an engine that is opened over what the site held: its tier began with what the journal's entries
-- leave, and was opened again.
pub record Opens (settings : Settings) (start : ℕ) (o : Held) (w : World) : Type 0 where
  pub journal : TierJournal
  pub begun : World
  pub begins : BeginsIn settings start o journal begun
  pub reopens : Reopens begun w None

-- A world at the site, in which the engine is left so, and over whose disk its journal is kept: that of an opened tier.
-- The way of the journal begins as is asked, of an opening that began over a site in this state.
pub record IsBegunOver {D : Type 0} (state : D → SiteState) (possible : D → ℕ → Held → Type 0) (onset : Onset)
    (settings : Settings) (start : ℕ) (before : SiteState) (o : Held) (d : D) (e : Engine) : Type 0 where
  pub world : World
  pub at : IsAt (state d) world
  pub left : IsLeft e.tier e.doubt world
  pub keeps : KeepsOver state possible d e.journal world
  pub kept : world.journal.kept ≡ true
  pub opens : Opens settings start o world
  pub starts : StartsAt onset before.moment opens.begins

-- so it is where the site tells what it holds, journal and history belong together, and the settings have this
-- pace
abbrev pub OpensOver : {D : Type 0} → (D → SiteState) → (D → ℕ → Held → Type 0) → ℕ → Pace → D → D → Engine → Type 0
OpensOver state possible start pace d d' e =
    (onset : Onset) (o : Held) (settings : Settings) → (state d).held ≡ Some o → HaveBytes o.slots
    → IsSure onset (Certain state possible d) o → MayOpen (state d).shared o → pace_of settings ≡ pace
    → IsBegunOver state possible onset settings start (state d) o d' e

-- a journal is kept
abbrev pub has_journal : Option TierJournal → Bool
has_journal None = false
has_journal (Some t) = true
