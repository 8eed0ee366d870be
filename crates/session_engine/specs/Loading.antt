-- What is loaded for a statement. (TimesTen Cache User's Guide, "Dynamically loading a cache instance".)

use Rattle.std.specs.Prelude.{◌≡◌, ℕ, Option, Some, None}
use Rattle.cache_tier.specs.Groups.{place_over}
use Rattle.cache_tier.specs.Wants.{loaded_want}
use Rattle.cache_tier.specs.Worlds.{World}
use Rattle.statement_uses.specs.Wanting.{want_seen}
use Rattle.statement_uses.specs.declared.wanting.Want.{Want}

-- the want is loaded by the group at this place, or it isn't loaded
abbrev pub IsLoadedAt : World → Want → Option ℕ → Type 0
IsLoadedAt w want None = loaded_want w.history w.tier (Some (want_seen want)) ≡ None
IsLoadedAt w want (Some place) =
    (loaded_want w.history w.tier (Some (want_seen want)) ≡ Some (want_seen want))
    × (place_over w.tier.groups want.table ≡ Some place)
