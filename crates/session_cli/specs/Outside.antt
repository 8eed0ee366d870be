-- What is seen of the outside before or behind a call. (This project's model.)

use Rattle.std.specs.Prelude.{◌≡◌, ℕ, List, Option, Some, true}
use Rattle.outside.specs.Calls.{Certain}
use Rattle.outside.specs.Holding.{Held}
use Rattle.outside.specs.Sites.{SiteState}
use Rattle.cache_tier.specs.Worlds.{World}
use Rattle.tier_journal.specs.declared.journal.TierJournal.{TierJournal}
use Rattle.tier_journal.specs.Keeping.{Keeps}
use Rattle.stored_tier.specs.Sites.{IsAt}
use Rattle.tier_journal.specs.KeptOver.{IsLeftOver, KeepsOver}
use Rattle.cache_engine.specs.OfTierOpening.Leaving.{LeftSince, Quality}
use Rattle.session_cli.specs.Timing.{Coming}

-- that this journal is kept over a disk in this world
abbrev pub Keeping : Type 1
Keeping = Option TierJournal → World → Type 0

-- The world is at a site, and a journal is kept over its disk.
pub record IsKeptNow (site : SiteState) (keeping : Keeping) (w : World) : Type 0 where
  pub at : IsAt site w
  pub kept : w.journal.kept ≡ true
  pub journal : Option TierJournal
  pub keeps : keeping journal w

-- so it was in some state of the site
pub record WasKept {D : Type 0} (state : D → SiteState) (possible : D → ℕ → Held → Type 0) (w : World) : Type 0 where
  pub site : D
  pub is : IsKeptNow (state site) (KeepsOver state possible site) w

-- what the sink holds, where it tells that; what the clock will answer; the site; which journal is kept over its disk
-- in a world; in which worlds one was at some time; of which world's journal a crash leaves a point of the way; whether
-- a crash now leaves just what the site tells; and which quality has whatever a crash leaves since a moment
pub record Outside : Type 1 where
  pub written : Option (List ℕ)
  pub coming : Coming
  pub site : SiteState
  pub keeps : Keeping
  pub kept_once : World → Type 0
  pub leaves : World → Type 0
  pub certain : Held → Type 0
  pub left : ℕ → Quality → Type 0

abbrev pub seen : {D : Type 0} → Option (List ℕ) → Coming → (D → SiteState) → (D → ℕ → Held → Type 0) → D → Outside
seen written coming state possible d =
    record {
      written = written;
      coming = coming;
      site = state d;
      keeps = KeepsOver state possible d;
      kept_once = WasKept state possible;
      leaves = IsLeftOver state possible d;
      certain = Certain state possible d;
      left = LeftSince state possible d;
    }

-- The site tells what it holds, and the world's journal is kept in its slots.
pub record IsInSlots (site : SiteState) (w : World) : Type 0 where
  pub there : Held
  pub told : site.held ≡ Some there
  pub journal : TierJournal
  pub keeps : Keeps w.tier.schema journal there.slots w.journal
