-- Sets of READONLY groups, and what a refresh makes of them. (TimesTen Cache User's Guide, "Automatically refreshing
-- a cache group"; that a set is refreshed from one snapshot in one step, and has one position, is this project's
-- rule.)

use Rattle.std.specs.Prelude.{false, ◌≡◌, ℕ, suc, List, [], ◌∷◌, Option, Some, None, Bool, true, ◌&&◌, ◌||◌, nat_eq, slice_get, count_by, if◌then◌else◌}
use Rattle.std.specs.List.{filter, list_any}
use Rattle.std.specs.FinMap.{contains_key}
use Rattle.row_types.specs.declared.value.Value.{Value}
use Rattle.instances.specs.Views.{kept_at}
use Rattle.instances.specs.Trees.{is_place}
use Rattle.table_state.specs.Tables.{TableState}
use Rattle.sql_subset.specs.declared.stmt.RefreshState.{RefreshState}
use Rattle.sql_subset.specs.declared.stmt.RefreshState.TheVariants.{On, Off, Paused}
use Rattle.cache_tier.specs.Groups.{Group, is_explicit, is_on, is_read_only}
use Rattle.cache_tier.specs.Reading.{ReadsFirst, backing_at}
use Rattle.cache_tier.specs.Shown.{exceeds, instances_where}
use Rattle.cache_tier.specs.TierStates.{Tier, refresh_tried}
use Rattle.cache_tier.specs.Worlds.{Becomes, OnlyWhere, Stage}

-- the set of an interval: the READONLY groups of this interval whose STATE is ON
abbrev pub is_in_set : ℕ → Group → Bool
is_in_set interval g = is_read_only g && nat_eq g.def.interval interval && is_on g.state

abbrev pub holds_some : List (List Value) → Bool
holds_some [] = false
holds_some (key ∷ keys) = true

-- it has something to show: it is loaded, be it without rows, or has a key in its list
abbrev pub has_something : Group → Bool
has_something g = if is_explicit g then g.loaded else holds_some g.keys

abbrev pub shows_something : ℕ → List Group → Bool
shows_something interval groups = list_any (λ g. is_in_set interval g && has_something g) groups

-- which groups, each with its place among all
abbrev pub Choice : Type 0
Choice = ℕ → Group → Bool

-- a set, and the group at a place that joins it
abbrev pub of_set : ℕ → Option ℕ → Choice
of_set interval joining place g = is_in_set interval g || is_place place joining

abbrev pub alone : ℕ → Choice
alone place other g = nat_eq other place

-- the root key's instance is in the group's view of the state, and past its horizon
abbrev pub is_in_view : TableState → Group → List Value → Bool
is_in_view s g key = contains_key (kept_at (instances_where s g.def.tree (exceeds g)) 0) key

-- the group at a position, where the backing state is this one: keys whose root isn't in the view, or doesn't exceed
-- the horizon, leave its list
abbrev pub at_position : ℕ → TableState → Group → Group
at_position n s g = record g { position = Some n; keys = filter (is_in_view s g) g.keys }

-- the chosen ones of these groups, which stand from a place on, are changed; the others stay
abbrev pub changed_from : Choice → (Group → Group) → ℕ → List Group → List Group
changed_from chosen change place [] = []
changed_from chosen change place (g ∷ groups) =
    (if chosen place g then change g else g) ∷ changed_from chosen change (suc place) groups

abbrev pub changed : Choice → (Group → Group) → Tier → Tier
changed chosen change t = record t { groups = changed_from chosen change 0 t.groups }

-- a refresh from one snapshot: the chosen groups have its position
abbrev pub refreshed : Choice → ℕ → TableState → Tier → Tier
refreshed chosen n s t = changed chosen (at_position n s) t

-- PAUSED becomes ON, OFF stays OFF
abbrev pub loaded_state : RefreshState → RefreshState
loaded_state On = On
loaded_state Off = Off
loaded_state Paused = On

-- what a group that is loaded is refreshed with: its set, or alone where it is OFF
abbrev pub loaded_with : Group → ℕ → Choice
loaded_with g place = by_state g.state
  where
    by_state : RefreshState → Choice
    by_state On = of_set g.def.interval (Some place)
    by_state Paused = of_set g.def.interval (Some place)
    by_state Off = alone place

-- a refresh of its set is tried; one that is OFF is in none
abbrev pub set_tried : Group → Tier → Tier
set_tried g t = by_state g.state
  where
    by_state : RefreshState → Tier
    by_state On = refresh_tried g.def.interval t
    by_state Paused = refresh_tried g.def.interval t
    by_state Off = t

-- a refresh of the set of an interval, where it has something to show
abbrev pub RefreshesSet : ℕ → Stage
RefreshesSet interval =
    ReadsFirst (refresh_tried interval)
    (λ n. Becomes (λ w. refreshed (of_set interval None) n (backing_at w n) w.tier))

abbrev pub RefreshesIfShown : ℕ → Stage
RefreshesIfShown interval w w' stop =
    OnlyWhere (shows_something interval w.tier.groups) (RefreshesSet interval) w w' stop

-- ttCacheAutorefresh: how many groups the set has
abbrev pub set_size : ℕ → Tier → ℕ
set_size interval t = count_by (is_in_set interval) t.groups

-- it is in the set, and has something to show
abbrev pub shows_in_set : ℕ → Group → Bool
shows_in_set interval g = is_in_set interval g && has_something g

-- any two groups of one set that have something to show have one position
abbrev pub OnePosition : List Group → Type 0
OnePosition groups =
    (interval i j : ℕ) (g h : Group) → slice_get groups i ≡ Some g → slice_get groups j ≡ Some h
    → shows_in_set interval g ≡ true → shows_in_set interval h ≡ true → g.position ≡ h.position
