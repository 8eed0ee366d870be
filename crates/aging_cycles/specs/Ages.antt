-- That cycles over what is stored are those of the abstract tier. (This project's model.)

use Rattle.cache_tier.specs.Aging.{after_aging}
use Rattle.cache_tier.specs.Events.{with_tier}
use Rattle.cache_tier.specs.Worlds.{World}
use Rattle.stored_tier.specs.declared.tier.Tier.{Tier as Stored}
use Rattle.stored_tier.specs.Performing.{StandsFor}

-- for each world for which the old tier stands the new one stands for it behind the cycles that were due
abbrev pub Ages : Stored → Stored → Type 0
Ages old new = (w : World) → StandsFor old w → StandsFor new (with_tier (after_aging w.history w.tier) w)
