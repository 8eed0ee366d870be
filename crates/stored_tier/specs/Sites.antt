-- What a statement that calls the bank does, where the site tells what it holds. (This project's model.)

use Rattle.std.specs.Prelude.{◌≡◌, Some}
use Rattle.outside.specs.Holding.{Held}
use Rattle.outside.specs.Sites.{SiteState}
use Rattle.cache_tier.specs.Worlds.{World}
use Rattle.stored_tier.specs.declared.tier.Tier.{Tier as Stored}
use Rattle.stored_tier.specs.Stored.{IsStoredAs}

-- A world is at the site: it has the history that the site tells, and the rest of what is seen. Its journal and the
-- disk's count aren't seen.
pub record IsAt (site : SiteState) (w : World) : Type 0 where
  pub there : Held
  pub told : site.held ≡ Some there
  pub history : w.history ≡ there.history
  pub faults : w.bank_faults ≡ site.bank_faults
  pub moment : w.moment ≡ site.moment
  pub shared : w.shared ≡ site.shared

-- a world at the site behind, that comes so, and as whose tier the new one is stored
pub record IsServed (new : Stored) (site : SiteState) (does : World → Type 0) : Type 0 where
  pub world : World
  pub at : IsAt site world
  pub stored : IsStoredAs new world.tier
  pub is : does world

-- for each world at the site before, as whose tier the old one is stored
abbrev pub Serves : Stored → Stored → SiteState → SiteState → (World → World → Type 0) → Type 0
Serves old new before behind does =
    (w : World) → IsAt before w → IsStoredAs old w.tier → IsServed new behind (does w)
