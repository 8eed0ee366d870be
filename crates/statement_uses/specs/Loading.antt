-- Which group loads what a statement wants. (TimesTen Cache User's Guide, "Dynamically loading a cache instance".)

use Rattle.std.specs.Prelude.{ℕ, List, ◌&&◌, not, Option, Some, None, slice_get, if◌then◌else◌}
use Rattle.std.specs.Option.{option_and_then}
use Rattle.std.specs.FinMap.{contains_key}
use Rattle.table_state.specs.Tables.{TableState, table_at}
use Rattle.cache_tier.specs.Groups.{Group, place_over}
use Rattle.cache_tier.specs.Wants.{loads_on_demand}
use Rattle.statement_uses.specs.declared.wanting.Want.{Want}

-- the place of the group that has the row's table, where it loads on demand and the row isn't shown
abbrev pub loading_place : List Group → TableState → Want → Option ℕ
loading_place groups shown want =
    option_and_then
    (λ place.
    option_and_then
    (λ g.
    if loads_on_demand g && not (contains_key (table_at shown want.table) want.key) then Some place else None)
    (slice_get groups place)) (place_over groups want.table)
