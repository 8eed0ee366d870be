-- Statements in the cache, with what they want loaded before. (TimesTen Cache User's Guide, "Dynamically loading a
-- cache instance".)

use Rattle.std.specs.Prelude.{Ok}
use Rattle.evaluator.specs.declared.change.Change.{Change}
use Rattle.resolution.specs.declared.resolved.ResolvedQuery.{ResolvedQuery}
use Rattle.resolution.specs.Queries.{query_seen}
use Rattle.resolution.specs.Writes.{change_seen}
use Rattle.cache_tier.specs.Routes.{Cached}
use Rattle.cache_tier.specs.SelectSteps.{SelectsBy}
use Rattle.cache_tier.specs.TierStates.{Session}
use Rattle.cache_tier.specs.Worlds.{Part, Tries}
use Rattle.cache_tier.specs.WriteSteps.{WritesBy}

-- a query whose names are found: what it wants is loaded, and it is answered in the cache
abbrev pub SelectsLoaded : ResolvedQuery → Session → Part
SelectsLoaded query s = Tries (SelectsBy Cached s (query_seen query))

-- a write whose names are found
abbrev pub WritesLoaded : Change → Session → Part
WritesLoaded change s = Tries (WritesBy (Ok Cached) s (change_seen change))
