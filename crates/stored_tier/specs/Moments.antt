-- When READONLY groups were refreshed last. (This project's model.)

use Rattle.std.specs.Prelude.{ℕ, List, find, unwrap_or}
use Rattle.std.specs.Option.{option_map}
use Rattle.cache_tier.specs.TierStates.{SetState, is_of_interval}
use Rattle.stored_tier.specs.declared.moments.SetMoment.{SetMoment}

-- when the set of an interval was refreshed last, tried or done; 0 where it never was
abbrev pub refreshed_in : List SetState → ℕ → ℕ
refreshed_in sets interval = unwrap_or (option_map (λ s. s.refreshed) (find (is_of_interval interval) sets)) 0

abbrev pub set_seen : SetMoment → SetState
set_seen s = record { interval = s.interval; refreshed = s.refreshed }
