-- A site that doesn't tell what it holds.

use Rattle.std.specs.Prelude.{ℕ, [], None}
use Rattle.outside.specs.Sites.{SiteState}

-- of a site whose disk and whose bank failed so often: it has one moment
abbrev pub untold_state : ℕ → ℕ → SiteState
untold_state disk_faults bank_faults =
    record { held = None; disk_faults = disk_faults; bank_faults = bank_faults; moment = 0; shared = [] }
