-- What the aging cycle of a group does, over what is stored. (TimesTen Cache User's Guide, "Implementing aging on a
-- cache group".)

use Rattle.std.specs.Prelude.{◌≡◌, ℕ, ℤ, ◌*◌, List, [], Bool, false, ◌&&◌, not, map, reverse, Option, Some, None, slice_get, if◌then◌else◌}
use Rattle.std.specs.List.{filter}
use Rattle.std.specs.FinMap.{values}
use Rattle.row_types.specs.declared.value.Value.{Value}
use Rattle.indexed_rows.specs.Rows.{Table, key_of, value_at}
use Rattle.instances.specs.Views.{kept_at}
use Rattle.group_store.specs.Stores.{Kept}
use Rattle.group_catalog.specs.Catalogs.{groups_in}
use Rattle.cache_tier.specs.declared.group.AgingRule.{AgingRule}
use Rattle.cache_tier.specs.declared.group.AgingRule.TheVariants.{ByTime, LastUse}
use Rattle.cache_tier.specs.Aging.{horizon_at, is_over, later, leaving}
use Rattle.cache_tier.specs.Groups.{Group, has_list}
use Rattle.cache_tier.specs.Shown.{is_past}
use Rattle.stored_tier.specs.declared.clock.Pace.{Pace}
use Rattle.stored_tier.specs.declared.tier.Tier.{Tier as Stored}
use Rattle.aging_cycles.specs.Busy.{is_busy_in, owns_of}

-- the milliseconds between two cycles
abbrev pub span_of : Pace → AgingRule → ℕ
span_of pace LastUse = pace.lru_cycle_ms
span_of pace (ByTime rule) = rule.cycle * 1000

abbrev pub is_due_by : Pace → ℕ → ℕ → Option AgingRule → Bool
is_due_by pace now last None = false
is_due_by pace now last (Some rule) = is_over now last (span_of pace rule)

-- the group's cycle is due
abbrev pub is_due : Pace → ℕ → Group → Bool
is_due pace now g = is_due_by pace now g.aged g.def.aging

-- that of the group at a place is
abbrev pub is_due_in : Stored → Option Group → Bool
is_due_in t None = false
is_due_in t (Some g) = is_due t.clock.pace t.clock.now g

abbrev pub is_due_at : Stored → ℕ → Bool
is_due_at t k = is_due_in t (slice_get (groups_in t.catalog) k)

-- the horizon that a cycle leaves
abbrev pub horizon_behind : ℕ → Option AgingRule → Option ℤ → Option ℤ
horizon_behind now None horizon = horizon
horizon_behind now (Some LastUse) horizon = horizon
horizon_behind now (Some (ByTime rule)) horizon = Some (later horizon (horizon_at now rule))

-- the root row doesn't exceed the horizon, and no session writes in its instance
abbrev pub is_expired : Option ℤ → ℕ → (List Value → Bool) → List Value → List Value → Bool
is_expired horizon column busy key row = not (is_past horizon (value_at row column)) && not (busy key)

-- the keys of such root rows, the last in key order first
abbrev pub expired_in : Option ℤ → ℕ → (List Value → Bool) → List ℕ → Table → List (List Value)
expired_in horizon column busy columns rows =
    map (key_of columns)
    (filter (λ row. is_expired horizon column busy (key_of columns row) row) (reverse (values rows)))

-- The root keys of the instances that leave a store, or are hidden. An explicit READONLY group has no list from which a
-- cycle by last use could take.
abbrev pub leaving_by : Pace → ℕ → (List Value → Bool) → Group → Kept → Option AgingRule → List (List Value)
leaving_by pace now busy g s None = []
leaving_by pace now busy g s (Some LastUse) =
    if has_list g then leaving pace.lru_high pace.lru_low busy s.keys else []
leaving_by pace now busy g s (Some (ByTime rule)) =
    expired_in (Some (later g.horizon (horizon_at now rule))) rule.column busy s.key (kept_at s.tables 0)

-- those of a group with its store
abbrev pub keys_leaving : Stored → Group → Kept → List (List Value)
keys_leaving t g s =
    leaving_by t.clock.pace t.clock.now (is_busy_in t.schema (owns_of t.sessions) g s) g s g.def.aging

-- no group's cycle is due
abbrev pub NoneIsDue : Stored → Type 0
NoneIsDue t = (k : ℕ) → is_due_at t k ≡ false
