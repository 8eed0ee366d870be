-- Where a way of a world's journal may begin. (This project's model of disk and crash.)

use Rattle.std.specs.Prelude.{◌≡◌, ℕ, Option, length}
use Rattle.outside.specs.Holding.{Held}
use Rattle.outside.specs.Sites.{SiteState}
use Rattle.cache_tier.specs.WayPoints.{with_way}
use Rattle.cache_tier.specs.Worlds.{World}
use Rattle.tier_journal.specs.declared.journal.TierJournal.{TierJournal}
use Rattle.tier_journal.specs.KeptOver.{KeepsOver, TellsSame}

-- the world with a way that begins in it
abbrev pub begun_here : World → World
begun_here w = record w { journal = with_way w.moment (length w.history) w.journal }

-- in each world of the site's moment and history over whose disk the journal is kept
abbrev pub WaysMayBegin : {D : Type 0} → (D → SiteState) → (D → ℕ → Held → Type 0) → Type 0
WaysMayBegin {D = D} state possible =
    (d : D) (k : Option TierJournal) (w : World) → w.moment ≡ (state d).moment
    → TellsSame (state d).held w.history → KeepsOver state possible d k w → KeepsOver state possible d k (begun_here w)
