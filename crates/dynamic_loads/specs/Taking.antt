-- What a group keeps once an instance that the bank told is among its own. (TimesTen Cache User's Guide, "Dynamically
-- loading a cache instance".)

use Rattle.std.specs.Prelude.{◌≡◌, ◌≤◌, ◌+◌, ◌⊎◌, ℕ, List, Bool, true, false, Option, Some, None, length, map, slice_get, slice_set, Result, Ok, Err}
use Rattle.std.specs.FinMap.{get, values}
use Rattle.std.specs.declared.alloc.AllocError.{AllocError}
use Rattle.row_types.specs.declared.value.Value.{Value}
use Rattle.instances.specs.Views.{kept_at, passes}
use Rattle.outside.specs.declared.site.Instance.{Instance}
use Rattle.group_catalog.specs.Catalogs.{groups_in}
use Rattle.group_store.specs.Stores.{HasRootKeys, Kept, SameButSpare, put_tables}
use Rattle.cache_tier.specs.Groups.{Group, is_read_only}
use Rattle.cache_tier.specs.Shown.{exceeds}
use Rattle.stored_tier.specs.declared.tier.Tier.{Tier as Stored}
use Rattle.stored_tier.specs.Stored.{IsVerified}
use Rattle.group_engine.specs.OfAgingCycles.Fitting.{AreListedFit}

-- the instance has its root row, which is past the group's horizon
abbrev pub is_viewed : Group → Instance → Bool
is_viewed g instance = passes (exceeds g) (get (kept_at instance.rows 0) instance.root)

-- the store at a place becomes another; where it is noted that sessions may read over the rows, they may
pub record StoreBecomes (old new : Stored) (place : ℕ) (store left : Kept) : Type 0 where
  pub kept : slice_get old.stores.items place ≡ Some store
  pub stores : new.stores.items ≡ slice_set old.stores.items place left
  pub rest : new ≡ record old { stores = new.stores; verified = new.verified }
  pub known : new.verified ≡ true → IsVerified new

-- the instance, which is in the view, is among those of the writethrough group at a place
pub record TakesInstance (old new : Stored) (place : ℕ) (instance : Instance) : Type 0 where
  pub group : Group
  pub store : Kept
  pub filled : Kept
  pub there : slice_get (groups_in old.catalog) place ≡ Some group
  pub writes : is_read_only group ≡ false
  pub viewed : is_viewed group instance ≡ true
  pub keyed : HasRootKeys store
  pub rows : SameButSpare (put_tables 0 (map values instance.rows) store) filled
  pub becomes : StoreBecomes old new place store filled

-- the instance isn't in the view of the writethrough group at a place, and all stays
pub record LeavesInstance (old new : Stored) (place : ℕ) (instance : Instance) : Type 0 where
  pub group : Group
  pub there : slice_get (groups_in old.catalog) place ≡ Some group
  pub writes : is_read_only group ≡ false
  pub viewed : is_viewed group instance ≡ false
  pub same : new ≡ old

-- at most the room of the store at a place is another
pub record GainsRoom (old new : Stored) (place : ℕ) : Type 0 where
  pub store : Kept
  pub left : Kept
  pub same : SameButSpare store left
  pub becomes : StoreBecomes old new place store left

-- the group takes the instance where it is in its view; memory may be wanting
abbrev pub TakesWhere : Stored → Stored → ℕ → Instance → Result (Unit {0}) AllocError → Type 0
TakesWhere old new place instance (Ok done) =
    TakesInstance old new place instance ⊎ LeavesInstance old new place instance
TakesWhere old new place instance (Err e) = (new ≡ old) ⊎ GainsRoom old new place

-- where there is one
abbrev pub TakesReached : Stored → Stored → ℕ → Option Instance → Result (Unit {0}) AllocError → Type 0
TakesReached old new place None result = new ≡ old
TakesReached old new place (Some instance) result = TakesWhere old new place instance result

-- ---- rows that are put into a store

-- the store at the place, where there is one, has as many tables
abbrev pub HasPlaceFor : ℕ → List (List (List Value)) → List Kept → Type 0
HasPlaceFor place rows stores =
    (s : Kept) → slice_get stores place ≡ Some s → length rows ≤ length s.layers + 1

-- the store at the place becomes one with these rows, too
pub record IsFilledAt (place : ℕ) (rows : List (List (List Value))) (old new : List Kept) : Type 0 where
  pub store : Kept
  pub filled : Kept
  pub kept : slice_get old place ≡ Some store
  pub keyed : HasRootKeys store
  pub rows_in : SameButSpare (put_tables 0 rows store) filled
  pub is : new ≡ slice_set old place filled

-- the store at the place has another room
pub record IsRoomAt (place : ℕ) (old new : List Kept) : Type 0 where
  pub store : Kept
  pub left : Kept
  pub kept : slice_get old place ≡ Some store
  pub same : SameButSpare store left
  pub is : new ≡ slice_set old place left

-- they are put in; memory may be wanting
abbrev pub FillsAt : ℕ → List (List (List Value)) → List Kept → List Kept → Result (Unit {0}) AllocError → Type 0
FillsAt place rows old new (Ok done) = IsFilledAt place rows old new
FillsAt place rows old new (Err e) = (new ≡ old) ⊎ IsRoomAt place old new

-- ---- rows that fit

-- sessions may read over the stored rows, and these rows fit the group's tables
pub record IsKnown (t : Stored) (g : Group) (rows : List (List (List Value))) : Type 0 where
  pub verified : IsVerified t
  pub fit : AreListedFit t.schema g.def.tree rows

-- the rows may come to the writethrough group at a place
pub record MayPut (t : Stored) (place : ℕ) (rows : List (List (List Value))) (known : Bool) : Type 0 where
  pub group : Group
  pub there : slice_get (groups_in t.catalog) place ≡ Some group
  pub writes : is_read_only group ≡ false
  pub room : HasPlaceFor place rows t.stores.items
  pub knows : known ≡ true → IsKnown t group rows

-- the store at a place has these rows, too
pub record HasPut (old new : Stored) (place : ℕ) (rows : List (List (List Value))) : Type 0 where
  pub store : Kept
  pub filled : Kept
  pub keyed : HasRootKeys store
  pub rows_in : SameButSpare (put_tables 0 rows store) filled
  pub becomes : StoreBecomes old new place store filled

-- they are put in; memory may be wanting
abbrev pub PutsRows : Stored → Stored → ℕ → List (List (List Value)) → Result (Unit {0}) AllocError → Type 0
PutsRows old new place rows (Ok done) = HasPut old new place rows
PutsRows old new place rows (Err e) = (new ≡ old) ⊎ GainsRoom old new place
