-- What of a group LOAD and UNLOAD write to the journal. (This project's rule.)

use Rattle.std.specs.Prelude.{Bool, true, false, ◌&&◌, not}
use Rattle.cache_tier.specs.Groups.{Group, is_paused, is_read_only}
use Rattle.cache_tier.specs.Targets.{has_flag}

-- PAUSED becomes ON
abbrev pub is_turned : Group → Bool
is_turned g = is_read_only g && is_paused g.state

-- a flag is another than it was
abbrev pub differ : Bool → Bool → Bool
differ true b = not b
differ false b = b

-- the flag is kept, and was the other one
abbrev pub is_flagged : Bool → Group → Bool
is_flagged flag g = has_flag g && differ flag g.loaded
