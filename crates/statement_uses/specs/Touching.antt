-- What uses make of stores. (TimesTen Cache User's Guide, "LRU aging".)

use Rattle.std.specs.Prelude.{◌≡◌, ℕ, List, [], ◌∷◌, ◌++◌, Some, map, slice_get, true, if◌then◌else◌}
use Rattle.std.specs.FinMap.{contains_key, keys}
use Rattle.row_types.specs.declared.value.Value.{Value}
use Rattle.indexed_rows.specs.Rows.{is_same}
use Rattle.table_state.specs.declared.operation.Op.{Op}
use Rattle.instances.specs.Views.{kept_at}
use Rattle.recency.specs.Rings.{keys_without}
use Rattle.cache_store.specs.Shown.{is_among}
use Rattle.group_store.specs.Entering.{entered}
use Rattle.group_store.specs.Stores.{Kept, touched_store}
use Rattle.cache_tier.specs.Groups.{Group}
use Rattle.statement_uses.specs.Uses.{keeps_list, keys_at}

-- keys become the newest of a store, one after another
abbrev pub touched_by : List (List Value) → Kept → Kept
touched_by [] s = s
touched_by (key ∷ more) s = touched_by more (touched_store key s)

-- the same of each store; those past the end of the uses stay
abbrev pub touched_stores : List (List (List Value)) → List Kept → List Kept
touched_stores [] stores = stores
touched_stores (roots ∷ uses) [] = []
touched_stores (roots ∷ uses) (s ∷ stores) = touched_by roots s ∷ touched_stores uses stores

-- the same where each key is there, and so stands at the end then
abbrev pub newest_by : List (List Value) → Kept → Kept
newest_by [] s = s
newest_by (key ∷ more) s = newest_by more (record s { keys = keys_without is_same key s.keys ++ key ∷ [] })

abbrev pub newest_stores : List (List (List Value)) → List Kept → List Kept
newest_stores [] stores = stores
newest_stores (roots ∷ uses) [] = []
newest_stores (roots ∷ uses) (s ∷ stores) = newest_by roots s ∷ newest_stores uses stores

-- each of the keys has a root row in the store
abbrev pub HaveRows : List (List Value) → Kept → Type 0
HaveRows roots s =
    (key : List Value) → is_among roots key ≡ true → contains_key (kept_at s.tables 0) key ≡ true

-- so it is of each store
abbrev pub HaveRowsIn : List (List (List Value)) → List Kept → Type 0
HaveRowsIn uses stores = (place : ℕ) (s : Kept) → slice_get stores place ≡ Some s → HaveRows (keys_at uses place) s

-- a store but for its room
abbrev pub roomless : Kept → Kept
roomless s = record s { spare = 0 }

abbrev pub roomless_all : List Kept → List Kept
roomless_all stores = map roomless stores

-- the root keys that operations insert into a store and leave there, in key order
abbrev pub entered_keys : Kept → List Op → List (List Value)
entered_keys s ops = keys (entered s ops)

-- for each group of which the list counts these are the keys that operations enter, where stores stand at the places of
-- their groups; for another one there are none
abbrev pub HaveEntered : List Group → List Kept → List Op → List (List (List Value)) → Type 0
HaveEntered groups stores ops uses =
    (place : ℕ) (g : Group) (s : Kept) → slice_get groups place ≡ Some g → slice_get stores place ≡ Some s
    → keys_at uses place ≡ (if keeps_list g then entered_keys s ops else [])
