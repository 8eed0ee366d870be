-- A dynamic load: a statement that runs in the cache brings in the instance that it wants. (TimesTen Cache User's
-- Guide, "Dynamically loading a cache instance"; that it does all but find a root where there is none, is this
-- project's rule.)

use Rattle.cache_tier.specs.JournalSteps.{FlushesSome}
use Rattle.std.specs.Prelude.{ℕ, List, [], ◌∷◌, Option, Some, None, ◌&&◌, if◌then◌else◌, slice_get}
use Rattle.std.specs.Bool.{MatchBool}
use Rattle.row_types.specs.declared.value.Value.{Value}
use Rattle.table_state.specs.Tables.{TableState}
use Rattle.sql_subset.specs.declared.stmt.RefreshState.TheVariants.{On}
use Rattle.cache_tier.specs.Groups.{Group, is_paused, is_read_only, place_over, with_keys}
use Rattle.cache_tier.specs.Journals.{JournalEntry, SetsState}
use Rattle.cache_tier.specs.Reading.{ReadsFirst, as_it_was, backing_at}
use Rattle.cache_tier.specs.Rounds.{RoundIfUnsettled}
use Rattle.cache_tier.specs.Sets.{alone, changed, is_in_view, loaded_state, of_set, refreshed, set_tried}
use Rattle.cache_tier.specs.Shown.{instance_key}
use Rattle.cache_tier.specs.TierStates.{Tier}
use Rattle.cache_tier.specs.Wants.{Want, loaded_want}
use Rattle.cache_tier.specs.Worlds.{Becomes, Passes, Stage, ThenStage, World}

-- the root that the wanted row is reached from, where it is in the group's view and past the horizon
abbrev pub found_root : TableState → Group → Want → List (List Value)
found_root s g want = of_root (instance_key s g want.table want.key)
  where
    of_root : Option (List Value) → List (List Value)
    of_root None = []
    of_root (Some key) = if is_in_view s g key then key ∷ [] else []

-- the group with the instance, where there is one
abbrev pub with_found : TableState → Want → Group → Group
with_found s want g = record g { keys = with_keys (found_root s g want) g.keys }

abbrev pub with_found_at : ℕ → TableState → Want → Tier → Tier
with_found_at place s want t = changed (alone place) (with_found s want) t

-- the record of a STATE that becomes ON
abbrev pub state_entries : Group → List JournalEntry
state_entries g = if is_read_only g && is_paused g.state then SetsState g.def.name On ∷ [] else []

abbrev pub state_loaded : Group → Group
state_loaded g = record g { state = loaded_state g.state }

-- of a READONLY group: its whole set is refreshed with it, at one position, and PAUSED becomes ON
abbrev pub joined_tier : ℕ → Group → Want → ℕ → World → Tier
joined_tier place g want n w =
    with_found_at place (backing_at w n) want
    (changed (alone place) state_loaded (refreshed (of_set g.def.interval (Some place)) n (backing_at w n) w.tier))

abbrev pub BringsReadOnly : ℕ → Group → Want → Stage
BringsReadOnly place g want =
    ReadsFirst (set_tried g) (λ n. ThenStage (FlushesSome (state_entries g)) (Becomes (joined_tier place g want n)))

-- of a writethrough group: what is unsettled is applied first
abbrev pub BringsWritethrough : ℕ → Want → Stage
BringsWritethrough place want =
    ThenStage RoundIfUnsettled
    (ReadsFirst as_it_was (λ n. Becomes (λ w. with_found_at place (backing_at w n) want w.tier)))

abbrev pub BringsInto : ℕ → Option Group → Want → Stage
BringsInto place None want w w' stop = Passes w w' stop
BringsInto place (Some g) want w w' stop =
    MatchBool (is_read_only g) (BringsReadOnly place g want w w' stop) (BringsWritethrough place want w w' stop)

abbrev pub BringsAt : Option ℕ → Tier → Want → Stage
BringsAt None t want = Passes
BringsAt (Some place) t want = BringsInto place (slice_get t.groups place) want

abbrev pub Brings : Tier → Option Want → Stage
Brings t None = Passes
Brings t (Some want) = BringsAt (place_over t.groups want.table) t want

-- what a statement wants is brought in, where it isn't shown
abbrev pub LoadsWanted : Option Want → Stage
LoadsWanted want w w' stop = Brings w.tier (loaded_want w.history w.tier want) w w' stop
