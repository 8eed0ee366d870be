-- What is read of the bank for a refresh by what changed. (TimesTen Cache User's Guide, "Automatically refreshing a
-- cache group": incremental autorefresh; that all groups of a refresh have one position is this project's rule.)

use Rattle.std.specs.Prelude.{◌≡◌, ◌≤◌, ◌+◌, ℕ, List, Option, Some, Result, Ok, Err, slice_get}
use Rattle.outside.specs.Sites.{SiteState}
use Rattle.outside.specs.declared.fault.BankError.{BankError}
use Rattle.group_store.specs.Stores.{Kept}
use Rattle.cache_tier.specs.Sets.{Choice}
use Rattle.cache_tier.specs.Wants.{Want}
use Rattle.cache_tier.specs.Worlds.{IsUnshared, World}
use Rattle.stored_tier.specs.declared.refreshing.Made.{Made}
use Rattle.stored_tier.specs.declared.tier.Tier.{Tier as Stored}
use Rattle.stored_tier.specs.Performing.{StandsFor}
use Rattle.stored_tier.specs.Sites.{IsAt}
use Rattle.changed_sets.specs.Fresh.{IsRead}
use Rattle.changed_sets.specs.Gains.{AreGainedBy}
use Rattle.changed_sets.specs.Showing.{AllCame}
use Rattle.changed_sets.specs.Turning.{count_cuts, count_turns}
use Rattle.changed_sets.specs.declared.showing.Changed.{Changed}
use Rattle.changed_sets.specs.declared.turns.Patch.{Patch}

-- the store of the patch at a place has room for what comes in
abbrev pub HasRoomAt : ℕ → List (Option Patch) → List Kept → Type 0
HasRoomAt k patches stores =
    (p : Patch) (s : Kept) → slice_get patches k ≡ Some (Some p) → slice_get stores k ≡ Some s
    → count_cuts p.cuts + count_turns p.turns ≤ s.spare

abbrev pub HaveRoom : List (Option Patch) → List Kept → Type 0
HaveRoom patches stores = (k : ℕ) → HasRoomAt k patches stores

-- What is read for a refresh: behind its patches the stores show the instances of the state at its position, with what
-- is wanted of the group at a place.
abbrev pub ReadsChangedIn : Stored → SiteState → Choice → ℕ → Option Want → World → Result Changed BankError → Type 0
ReadsChangedIn t behind filled place want w (Ok changed) =
    (r : IsRead t behind (Ok changed.position.0) w)
    × ((made : List (Option Made)) → AllCame changed.patches.items t.stores.items made
    → AreGainedBy t r.world filled place want changed.position.0 made)
ReadsChangedIn t behind filled place want w (Err e) = IsRead t behind (Err e) w

abbrev pub ReadsChanged : Stored → Stored → SiteState → SiteState → Choice → ℕ → Option Want → Result Changed BankError
    → Type 0
ReadsChanged old new before behind filled place want result =
    (w : World) → IsAt before w → StandsFor old w → IsUnshared w → ReadsChangedIn new behind filled place want w result
