-- The end of the input. (This project's rule: what waits in the journal's tail is flushed.)

use Rattle.std.specs.Prelude.{ℕ, Option}
use Rattle.outside.specs.Holding.{Held}
use Rattle.outside.specs.Sites.{SiteState}
use Rattle.cache_tier.specs.Journals.{Journal}
use Rattle.cache_tier.specs.Steps.{Finishes}
use Rattle.cache_tier.specs.Worlds.{World}
use Rattle.cache_tier.specs.declared.reply.Reply.{Reply}
use Rattle.stored_tier.specs.Sites.{IsAt}
use Rattle.tier_journal.specs.declared.journal.TierJournal.{TierJournal}
use Rattle.tier_journal.specs.KeptOver.{KeepsOver, KeepsUnlessBroken, over_disk}

-- The tail is flushed in this world, or a call of the disk failed. Nothing but the journal, the disk's count and the
-- moment changes. A crash leaves a point of the journal's way; and unless the call failed, the journal is kept over the
-- disk still, and nothing of it waits.
pub record IsFinished {D : Type 0} (state : D → SiteState) (possible : D → ℕ → Held → Type 0)
    (k : Option TierJournal) (d : D) (stop : Option Reply) (w : World) : Type 0 where
  pub journal : Journal
  pub faults : ℕ
  pub at : IsAt (state d) (over_disk journal faults (state d).moment w)
  pub is : Finishes w (over_disk journal faults (state d).moment w) stop
  pub keeps : KeepsUnlessBroken state possible d stop k (over_disk journal faults (state d).moment w)

-- so it is in each world at the site before, over whose disk the journal is kept
abbrev pub FinishesOver : {D : Type 0} → (D → SiteState) → (D → ℕ → Held → Type 0) → Option TierJournal
    → Option TierJournal → D → D → Option Reply → Type 0
FinishesOver state possible k k' d d' stop =
    (w : World) → IsAt (state d) w → KeepsOver state possible d k w → IsFinished state possible k' d' stop w
