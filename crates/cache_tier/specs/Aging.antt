-- Aging. (TimesTen Cache User's Guide, "Implementing aging on a cache group"; TimesTen SQL Reference, "CREATE CACHE
-- GROUP": AGING. Thresholds that count instances, and a horizon that only grows, are this project's rule.)

use Rattle.std.specs.Prelude.{ℕ, ℤ, pos, ◌-ℤ◌, ◌-◌, ◌*◌, ◌+◌, ◌/◌, nat_lt, nat_le, int_lt, List, [], ◌∷◌, Bool, false, ◌&&◌, not, length, map, Option, Some, None, if◌then◌else◌}
use Rattle.std.specs.List.{filter}
use Rattle.std.specs.FinMap.{keys, get}
use Rattle.row_types.specs.declared.value.Value.{Value}
use Rattle.table_state.specs.declared.history.Entry.{Entry}
use Rattle.cache_tier.specs.declared.group.AgingRule.{AgingRule}
use Rattle.cache_tier.specs.declared.group.AgingRule.TheVariants.{ByTime, LastUse}
use Rattle.cache_tier.specs.declared.group.TimeRule.{TimeRule}
use Rattle.cache_tier.specs.Groups.{Group, is_read_only, without_keys}
use Rattle.cache_tier.specs.Locks.{is_busy}
use Rattle.cache_tier.specs.Shown.{exceeds, shown_roots}
use Rattle.cache_tier.specs.TierStates.{Settings, Tier}

-- the milliseconds between two cycles of a group
abbrev pub cycle_of : Settings → AgingRule → ℕ
cycle_of settings LastUse = settings.lru_cycle_ms
cycle_of settings (ByTime rule) = rule.cycle * 1000

-- so much time has passed since then
abbrev pub is_over : ℕ → ℕ → ℕ → Bool
is_over now last span = nat_le (last + span) now

abbrev pub is_aged_by : Settings → ℕ → Group → Option AgingRule → Bool
is_aged_by settings now g None = false
is_aged_by settings now g (Some rule) = is_over now g.aged (cycle_of settings rule)

-- the group's cycle is due
abbrev pub is_aging_due : Tier → Group → Bool
is_aging_due t g = is_aged_by t.settings t.now g g.def.aging

-- So many of these leave, from the old end; those with uncommitted writes are skipped.
abbrev pub oldest : ℕ → (List Value → Bool) → List (List Value) → List (List Value)
oldest n busy [] = []
oldest n busy (key ∷ keys) =
    if busy key then oldest n busy keys else (if nat_lt 0 n then key ∷ oldest (n - 1) busy keys else [])

-- where there are more instances than the high mark, they leave until there are as many as the low one, or none can go
abbrev pub leaving : ℕ → ℕ → (List Value → Bool) → List (List Value) → List (List Value)
leaving high low busy keys = if nat_lt high (length keys) then oldest (length keys - low) busy keys else []

abbrev pub aged_by_use : Settings → (List Value → Bool) → Group → Group
aged_by_use settings busy g =
    record g { keys = without_keys (leaving settings.lru_high settings.lru_low busy g.keys) g.keys }

-- the later of two horizons
abbrev pub later : Option ℤ → ℤ → ℤ
later None n = n
later (Some m) n = if int_lt m n then n else m

-- a lifetime before now, in whole seconds
abbrev pub horizon_at : ℕ → TimeRule → ℤ
horizon_at now rule = pos (now / 1000) -ℤ pos rule.lifetime

abbrev pub with_horizon : ℕ → TimeRule → Group → Group
with_horizon now rule g = record g { horizon = Some (later g.horizon (horizon_at now rule)) }

-- the key is that of a shown root row that doesn't exceed the horizon
abbrev pub is_at_or_under : Group → Option (List Value) → Bool
is_at_or_under g None = false
is_at_or_under g (Some row) = not (exceeds g row)

abbrev pub expired : List Entry → Tier → Group → List (List Value)
expired history t g =
    filter (λ key. is_at_or_under g (get (shown_roots history t.log g) key) && not (is_busy history t g key)) g.keys

-- A time cycle moves the horizon. A READONLY group shows only what exceeds it; from another the instances at or under
-- it leave, those with uncommitted writes skipped.
abbrev pub aged_by_time : List Entry → Tier → Group → Group
aged_by_time history t g = if is_read_only g then g else record g { keys = without_keys (expired history t g) g.keys }

abbrev pub aged_rule : List Entry → Tier → Option AgingRule → Group → Group
aged_rule history t None g = g
aged_rule history t (Some LastUse) g = aged_by_use t.settings (is_busy history t g) g
aged_rule history t (Some (ByTime rule)) g = aged_by_time history t (with_horizon t.now rule g)

-- the group behind its cycle
abbrev pub aged : List Entry → Tier → Group → Group
aged history t g = record (aged_rule history t g.def.aging g) { aged = t.now }

-- Each due group has its cycle. They don't depend on one another, so their order plays no part.
abbrev pub after_aging : List Entry → Tier → Tier
after_aging history t = record t { groups = map (λ g. if is_aging_due t g then aged history t g else g) t.groups }
