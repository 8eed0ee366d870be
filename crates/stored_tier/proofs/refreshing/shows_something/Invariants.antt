use Rattle.std.proofs.Common.{◌≡◌, drop}
use Rattle.cache_tier.specs.Sets.{shows_something}
use Rattle.cache_tier.specs.TierStates.{Tier as AbstractTier}
use Rattle.stored_tier.specs.Stored.{IsStoredAs}
use Rattle.stored_tier.proofs.refreshing.shows_something.Given as goal

abbrev pub invariant-loop-place : goal.invariant-loop-place
invariant-loop-place l =
    (a : AbstractTier) → IsStoredAs l.tier a → shows_something l.interval (drop l.place a.groups) ≡ shows_something l.interval a.groups
