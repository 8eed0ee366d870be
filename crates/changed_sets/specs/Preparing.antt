-- What a refresh by the changed instances makes ready.

use Rattle.std.specs.Prelude.{◌≡◌, ℕ, List, Bool, true, false, Option, Some, None, length, nat_eq, slice_get, take}
use Rattle.indexed_rows.specs.Rows.{Table}
use Rattle.table_defs.specs.declared.definition.TableDef.{TableDef}
use Rattle.outside.specs.declared.changes.Touched.{Touched}
use Rattle.slot_rows.specs.SlotKeys.{RowsHeld}
use Rattle.group_catalog.specs.Catalogs.{groups_in}
use Rattle.group_store.specs.Stores.{Kept}
use Rattle.cache_tier.specs.Groups.{Group}
use Rattle.cache_tier.specs.Sets.{Choice}
use Rattle.stored_tier.specs.declared.tier.Tier.{Tier as Stored}
use Rattle.changed_sets.specs.Since.{trees_of}
use Rattle.changed_sets.specs.Turning.{IsPatchFor}
use Rattle.changed_sets.specs.declared.turns.Patch.{Patch}

-- what becomes of a group that keeps rows, where instances were told of its tree; nothing of another
abbrev pub IsPrepared : Bool → List TableDef → Group → Kept → Table → Bool → Option (List Touched) → Option Patch
    → Type 0
IsPrepared true schema g s hidden gains told None = ⊥
IsPrepared true schema g s hidden gains None (Some p) = ⊥
IsPrepared true schema g s hidden gains (Some told) (Some p) = IsPatchFor schema g s hidden gains told p
IsPrepared false schema g s hidden gains told o = o ≡ None

-- so it is of the group at a place
abbrev pub IsPatchOf : Stored → Bool → Bool → ℕ → Option (List Touched) → Option Patch → Type 0
IsPatchOf t filled gains k told o =
    (g : Group) (s : Kept) (h : RowsHeld) → slice_get (groups_in t.catalog) k ≡ Some g
    → slice_get t.stores.items k ≡ Some s → slice_get t.hidden.items k ≡ Some h
    → IsPrepared filled t.schema g s h.table gains told o

-- how many of these groups stand before a place
abbrev pub count_before : Choice → ℕ → List Group → ℕ
count_before filled k groups = length (trees_of filled 0 (take k groups))

-- of each group, where instances were told of the trees of those that keep rows, in their order; the one at a place
-- gains what is wanted
pub record ArePatches (t : Stored) (filled : Choice) (place : ℕ) (touched : List (List Touched))
    (patches : List (Option Patch)) : Type 0 where
  pub long : length patches ≡ length (groups_in t.catalog)
  pub each : (k : ℕ) (g : Group) (o : Option Patch) → slice_get (groups_in t.catalog) k ≡ Some g
      → slice_get patches k ≡ Some o
      → IsPatchOf t (filled k g) (nat_eq k place) k
      (slice_get touched (count_before filled k (groups_in t.catalog))) o
