-- What is read of the bank for a refresh. (TimesTen Cache User's Guide, "Automatically refreshing a cache group"; that
-- all groups of a refresh have one position is this project's rule.)

use Rattle.std.specs.Prelude.{Result, Ok, Err}
use Rattle.outside.specs.Sites.{SiteState}
use Rattle.outside.specs.declared.fault.BankError.{BankError}
use Rattle.cache_tier.specs.Sets.{Choice}
use Rattle.cache_tier.specs.Worlds.{IsUnshared, World}
use Rattle.changed_sets.specs.Fresh.{IsRead}
pub use Rattle.changed_sets.specs.Fresh.{AreFormed, AreFresh, AreGained, HasOwnKeys, IsCalled, IsExchanged, IsFreshFor, IsRead, IsViewed, gained_at, is_fresh, keys_touched}
use Rattle.group_engine.specs.declared.fresh.Fresh.{Fresh}
use Rattle.stored_tier.specs.declared.tier.Tier.{Tier as Stored}
use Rattle.stored_tier.specs.Performing.{StandsFor}
use Rattle.stored_tier.specs.Sites.{IsAt}

-- what is read for a refresh
abbrev pub ReadsIn : Stored → SiteState → Choice → World → Result Fresh BankError → Type 0
ReadsIn t behind filled w (Ok fresh) =
    (r : IsRead t behind (Ok fresh.position.0) w) × AreFresh t r.world filled fresh.position.0 fresh.made.items
ReadsIn t behind filled w (Err e) = IsRead t behind (Err e) w

abbrev pub ReadsFresh : Stored → SiteState → SiteState → Choice → Result Fresh BankError → Type 0
ReadsFresh t before behind filled result =
    (w : World) → IsAt before w → StandsFor t w → IsUnshared w → ReadsIn t behind filled w result
