-- UNLOAD of a READONLY group that hides instances. (TimesTen SQL Reference, "UNLOAD CACHE GROUP"; that those which
-- aging hides leave too is this project's rule.)

use Rattle.std.specs.Prelude.{◌≡◌, ℕ, List, [], ◌∷◌, Bool, false, true, Option, Some, None, set, slice_get}
use Rattle.std.specs.FinMap.{remove}
use Rattle.row_types.specs.declared.value.Value.{Value}
use Rattle.indexed_rows.specs.Rows.{Table}
use Rattle.slot_rows.specs.SlotKeys.{IsKeyedBy, RowsHeld}
use Rattle.group_catalog.specs.Catalogs.{groups_in}
use Rattle.group_catalog.specs.declared.which.ResolvedWhich.{ResolvedWhich}
use Rattle.group_store.specs.Keeping.{primary_of}
use Rattle.group_store.specs.Stores.{HasRootKeys, Kept}
use Rattle.cache_tier.specs.Groups.{Group}
use Rattle.group_engine.specs.declared.aiming.Aim.{Aim}
use Rattle.group_engine.specs.UnloadNamed.{FitsFor}
use Rattle.group_engine.specs.Unloading.{IsCutBy, leaving}
use Rattle.stored_tier.specs.Lists.{hides_keys}
use Rattle.stored_tier.specs.Stored.{IsVerified}
use Rattle.stored_tier.specs.declared.tier.Tier.{Tier as Stored}

-- the group hides instances that its list has
abbrev pub hides_some : Option Group → Bool
hides_some None = false
hides_some (Some g) = hides_keys g

-- without the rows of these keys
abbrev pub without_rows : List (List Value) → Table → Table
without_rows [] rows = rows
without_rows (key ∷ keys) rows = without_rows keys (remove rows key)

-- the rows of these keys were taken out
pub record AreOut (keys : List (List Value)) (old new : RowsHeld) : Type 0 where
  pub rows : new.table ≡ without_rows keys old.table
  pub places : new.places ≡ old.places
  pub spare : new.spare ≡ old.spare

-- instances left a store, so many, and hidden root rows; where the root rows fit, those that match
pub record AreCutBy (fits : Table → Type 0) (which : ResolvedWhich) (columns : List ℕ) (store left : Kept)
    (hidden behind : RowsHeld) (n : ℕ) : Type 0 where
  pub roots : HasRootKeys store
  pub cut : IsCutBy fits which columns store left n
  pub keyed : IsKeyedBy hidden.places hidden.table
  pub others : List (List Value)
  pub are : fits hidden.table → others ≡ leaving which columns hidden.table
  pub out : AreOut others hidden behind

-- the same at a place of lists
pub record AreCutAt (fits : Table → Type 0) (place : ℕ) (columns : List ℕ) (which : ResolvedWhich) (old : List Kept)
    (hid : List RowsHeld) (new : List Kept) (hidden : List RowsHeld) (n : ℕ) : Type 0 where
  pub store : Kept
  pub left : Kept
  pub before : RowsHeld
  pub behind : RowsHeld
  pub kept : slice_get old place ≡ Some store
  pub held : slice_get hid place ≡ Some before
  pub cut : AreCutBy fits which columns store left before behind n
  pub stores : new ≡ set old place left
  pub rows : hidden ≡ set hid place behind

-- So it is of the group at a place, and nothing else changed. Where it is noted that sessions may read over the stored
-- rows, they may.
pub record IsCutHiding (t new : Stored) (aim : Aim) (n : ℕ) : Type 0 where
  pub group : Group
  pub there : slice_get (groups_in t.catalog) aim.place ≡ Some group
  pub cut : AreCutAt (FitsFor t.schema group.def.tree.root.table) aim.place
      (primary_of t.schema group.def.tree.root.table) aim.which t.stores.items t.hidden.items new.stores.items
      new.hidden.items n
  pub is : new ≡ record t { stores = new.stores; hidden = new.hidden; verified = new.verified }
  pub known : new.verified ≡ true → IsVerified new
