-- Where a write is done, as code sees it, and a write with its names found. (TimesTen Cache User's Guide, "Setting a
-- passthrough level".)

use Rattle.std.specs.Prelude.{◌≡◌, Option, Some, None, Result, Ok, Err}
use Rattle.row_types.specs.declared.rule.Refused.{Refused}
use Rattle.row_types.specs.declared.rule.Refused.TheVariants as refused
use Rattle.row_types.specs.declared.rule.Rule.{Rule}
use Rattle.resolution.specs.Writes.{change_seen, named_write, resolved_write}
use Rattle.sql_query.specs.declared.write.Write.{Write}
use Rattle.cache_tier.specs.Order.{first_broken, write_broken}
use Rattle.cache_tier.specs.Routes as route
use Rattle.cache_tier.specs.Routes.{visible, write_route}
use Rattle.cache_tier.specs.TierStates.{Session, Tier, level_of}
use Rattle.tier_statements.specs.declared.routing.Route.{Route}
use Rattle.tier_statements.specs.declared.routing.Route.TheVariants.{Cached, PassedOn}
use Rattle.tier_statements.specs.declared.routing.RoutedWrite.{RoutedWrite}

-- the route that a reader of the tier sees
abbrev pub route_seen : Route → route.Route
route_seen Cached = route.Cached
route_seen PassedOn = route.PassedOn

-- the first rule that a write breaks before any call of the outside
abbrev pub write_refusal : Tier → Session → Write → Option Rule
write_refusal t s w = first_broken (write_broken t s (named_write (visible (level_of s) t) w))

-- the write breaks none; it stands for the one with names, and this is where it is done
pub record IsRouted (t : Tier) (s : Session) (w : Write) (routed : RoutedWrite) : Type 0 where
  pub unbroken : write_refusal t s w ≡ None
  pub resolved : resolved_write (visible (level_of s) t) w ≡ Ok (change_seen routed.change)
  pub way : write_route (level_of s) t routed.change.table ≡ Ok (route_seen routed.route)

-- the write is routed, or the first rule that it breaks is told; memory may be wanting at any time
abbrev pub Routes : Tier → Session → Write → Result RoutedWrite Refused → Type 0
Routes t s w (Ok routed) = IsRouted t s w routed
Routes t s w (Err (refused.Rule rule)) = write_refusal t s w ≡ Some rule
Routes t s w (Err refused.Memory) = Unit {0}
