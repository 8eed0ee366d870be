-- What a dynamic READONLY group gains, where a statement wants a row of it. (TimesTen Cache User's Guide, "Dynamically
-- loading a cache instance"; that its whole set is refreshed with it is this project's rule.)

use Rattle.std.specs.Prelude.{◌≡◌, ℕ, List, [], ◌∷◌, Bool, ◌&&◌, not, Option, Some, None, slice_get, if◌then◌else◌}
use Rattle.std.specs.FinMap.{empty, get, keys}
use Rattle.row_types.specs.declared.value.Value.{Value}
use Rattle.indexed_rows.specs.Rows.{Table, put_in}
use Rattle.table_state.specs.declared.footprint.RowKey.{RowKey}
use Rattle.table_state.specs.Tables.{TableState, table_at}
use Rattle.instances.specs.Roots.{root_of}
use Rattle.instances.specs.Views.{selects}
use Rattle.slot_rows.specs.SlotKeys.{RowsHeld}
use Rattle.group_catalog.specs.Catalogs.{groups_in}
use Rattle.group_store.specs.Stores.{Kept}
use Rattle.cache_tier.specs.Groups.{Group}
use Rattle.cache_tier.specs.Sets.{Choice}
use Rattle.cache_tier.specs.Shown.{exceeds}
use Rattle.cache_tier.specs.Wants.{Want}
use Rattle.cache_tier.specs.Worlds.{World}
use Rattle.stored_tier.specs.declared.refreshing.Made.{Made}
use Rattle.stored_tier.specs.declared.tier.Tier.{Tier as Stored}
use Rattle.stored_tier.specs.Filling.{is_held}
use Rattle.changed_sets.specs.Fresh.{AreGained}

-- the root row is in the view, and past the horizon
abbrev pub is_past_row : Group → List Value → Bool
is_past_row g row = selects g.def.tree.root.filter row && exceeds g row

-- the root row that the group gains: it is in the view, past the horizon, and the group doesn't have its key
abbrev pub found_row : Group → Kept → Table → List Value → Option (List Value) → Table
found_row g s hidden key None = empty
found_row g s hidden key (Some row) =
    if is_past_row g row && not (is_held s hidden key) then put_in empty key row else empty

abbrev pub found_under : Group → Kept → Table → TableState → Option (List Value) → Table
found_under g s hidden state None = empty
found_under g s hidden state (Some key) = found_row g s hidden key (get (table_at state g.def.tree.root.table) key)

-- that of the root which the wanted row is reached from
abbrev pub found_in : Group → Kept → Table → Want → TableState → Table
found_in g s hidden want state = found_under g s hidden state (root_of state g.def.tree want.table want.key)

-- its key, where the group, its store and its hidden root rows are there
abbrev pub keys_found : Option Group → Option Kept → Option RowsHeld → Want → TableState → List (List Value)
keys_found None s h want state = []
keys_found (Some g) None h want state = []
keys_found (Some g) (Some s) None want state = []
keys_found (Some g) (Some s) (Some h) want state = keys (found_in g s h.table want state)

-- the keys that the group at a place gains of a state; where nothing is wanted it gains none
abbrev pub gained_keys : Stored → ℕ → Option Want → TableState → List (List Value)
gained_keys t place None state = []
gained_keys t place (Some want) state =
    keys_found (slice_get (groups_in t.catalog) place) (slice_get t.stores.items place) (slice_get t.hidden.items place)
    want state

-- what the bank is asked for
abbrev pub rows_wanted : Option Want → List RowKey
rows_wanted None = []
rows_wanted (Some want) = record { table = want.table; key = want.key } ∷ []

-- The stores show instances of the state at this position of a world's history; the group at a place gains what is
-- wanted there, where something is.
pub record AreGainedBy (t : Stored) (w : World) (filled : Choice) (place : ℕ) (want : Option Want) (n : ℕ)
    (made : List (Option Made)) : Type 0 where
  pub more : List (List Value)
  pub gained : AreGained t w filled place more n made
  pub are : more ≡ gained_keys t place want gained.state
