-- The refresh of a set, where it is noted that it was tried. (TimesTen Cache User's Guide, "Automatically refreshing a
-- cache group".)

use Rattle.std.specs.Prelude.{ℕ, Option}
use Rattle.outside.specs.Sites.{SiteState}
use Rattle.cache_tier.specs.Sets.{RefreshesSet}
use Rattle.cache_tier.specs.TierStates.{refresh_tried}
use Rattle.cache_tier.specs.Worlds.{World}
use Rattle.cache_tier.specs.declared.reply.Reply.{Reply}
use Rattle.stored_tier.specs.declared.tier.Tier.{Tier as Stored}
use Rattle.stored_tier.specs.Performing.{Performs, StandsFor}

-- this tier stands for a world in which the refresh of the set of an interval is noted as tried, where the other stood
abbrev pub IsNoted : ℕ → Stored → Stored → Type 0
IsNoted interval t noted = (w : World) → StandsFor t w
    → StandsFor noted (record w { tier = refresh_tried interval w.tier })

-- what is done behind that note is, with it, a refresh of the set
abbrev pub RefreshesNoted : ℕ → Stored → Stored → SiteState → SiteState → Option Reply → Type 0
RefreshesNoted interval noted new before behind stop =
    (t : Stored) → IsNoted interval t noted → Performs t new before behind (λ w w'. RefreshesSet interval w w' stop)
