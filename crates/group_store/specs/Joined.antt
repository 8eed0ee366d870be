-- The rows of a tree's tables as they are stored.
use Rattle.std.specs.Prelude.{◌≡◌, ◌≢◌, ℕ, ◌<◌, ◌≤◌, List, [], ◌∷◌, ◌++◌, Option, Some, None, length, map, min, slice_get}
use Rattle.std.specs.FinMap.{entries, get, remove}
use Rattle.slot_rows.specs.row_types.specs.declared.value.Value.{Value}
use Rattle.slot_rows.specs.indexed_rows.specs.Places.{IsKeyAt}
use Rattle.slot_rows.specs.indexed_rows.specs.Rows.{Table, is_same, key_of}
use Rattle.cache_store.specs.recency.specs.Rings.{keys_without}
use Rattle.cache_store.specs.instances.specs.Views.{kept_at}
use Rattle.cache_store.specs.Operating.{change_at}
use Rattle.group_store.specs.Trees.{IsBare, Layer, cut_from, foreign_at, key_at}
use Rattle.group_store.specs.declared.tree_rows.ChildRows.{ChildRows}
use Rattle.group_store.specs.declared.tree_rows.TreeRows.{TreeRows}

abbrev pub layer_of : ChildRows → Layer
layer_of c = record { table = c.table; key = c.rows.places; foreign = c.foreign; parent = c.parent }

abbrev pub layers_of : TreeRows → List Layer
layers_of t = map layer_of t.children.items

-- by place of the tree, the root's first
abbrev pub tables_of : TreeRows → List Table
tables_of t = t.roots.table ∷ map (λ c. c.rows.table) t.children.items

abbrev pub places_at : TreeRows → ℕ → List ℕ
places_at t place = key_at t.roots.places (layers_of t) place

abbrev pub foreign_there : TreeRows → ℕ → List ℕ
foreign_there t place = foreign_at t.roots.foreign (layers_of t) place

-- a child table's parent stands before it, and its one other order is by parent
pub record IsJoined (t : TreeRows) (i : ℕ) (c : ChildRows) : Type 0 where
  pub before : c.parent ≤ i
  pub orders : c.rows.orders ≡ (c.foreign ++ c.rows.places) ∷ []
  pub some : 0 < length c.foreign
  pub long : length c.foreign ≡ length (places_at t c.parent)

abbrev pub AreJoined : TreeRows → Type 0
AreJoined t = (i : ℕ) (c : ChildRows) → slice_get t.children.items i ≡ Some c → IsJoined t i c

-- the room that each of these tables has at least
abbrev pub least : ℕ → List ChildRows → ℕ
least n [] = n
least n (c ∷ cs) = min c.rows.spare (least n cs)

-- how many more rows go in without memory, into whatever table
abbrev pub least_spare : TreeRows → ℕ
least_spare t = least t.roots.spare t.children.items

-- the row at a place in key order of a child table is gone, and all else stays
pub record TakesChild (old new : TreeRows) (place spot : ℕ) : Type 0 where
  pub roots : new.roots ≡ old.roots
  pub layers : layers_of new ≡ layers_of old
  pub joined : AreJoined old → AreJoined new
  pub spare : least_spare old ≤ least_spare new
  pub leaves : (key : List Value) → IsKeyAt (entries (kept_at (tables_of old) place)) key spot →
      tables_of new ≡ change_at place (λ t. remove t key) (tables_of old)

-- rows of child tables left, and all else stays
pub record LeavesChildren (old new : TreeRows) : Type 0 where
  pub roots : new.roots ≡ old.roots
  pub layers : layers_of new ≡ layers_of old
  pub joined : AreJoined new
  pub spare : least_spare old ≤ least_spare new

-- of what leads to the row of a key the row alone is left
pub record IsBared (old new : TreeRows) (top : ℕ) (key : List Value) : Type 0 where
  pub bare : IsBare (layers_of new) (tables_of new) top key
  pub cut : cut_from (layers_of new) (tables_of new) top key ≡ cut_from (layers_of old) (tables_of old) top key

-- a root's row was taken out, with all that leads to it and its key
pub record CutsRoot (old new : TreeRows) (key : List Value) (row : Option (List Value)) : Type 0 where
  pub was : row ≡ get old.roots.table key
  pub tables : tables_of new ≡ cut_from (layers_of old) (tables_of old) 0 key
  pub keys : new.roots.keys ≡ keys_without is_same key old.roots.keys

-- a child row of one table that names the parent's key; none only where no row does
abbrev pub IsRowOf : ChildRows → ℕ → List Value → Option (List Value) → Type 0
IsRowOf c place key None =
    c.parent ≡ place → (child row : List Value) → get c.rows.table child ≡ Some row → key_of c.foreign row ≢ key
IsRowOf c place key (Some row) =
    (c.parent ≡ place) × (get c.rows.table (key_of c.rows.places row) ≡ Some row) × (key_of c.foreign row ≡ key)

-- the tables and their keys stay, and how they are joined
pub record KeepsTree (old new : TreeRows) : Type 0 where
  pub places : new.roots.places ≡ old.roots.places
  pub foreign : new.roots.foreign ≡ old.roots.foreign
  pub layers : layers_of new ≡ layers_of old
  pub joined : AreJoined old → AreJoined new
