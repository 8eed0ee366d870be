-- Rows that are put into the store of a group. (TimesTen Cache User's Guide, "Cache instances": instances are loaded
-- whole.)

use Rattle.std.specs.Prelude.{◌≡◌, ◌≤◌, ◌+◌, ℕ, List, Bool, false, Some, length, slice_get, slice_set, Result, Ok, Err}
use Rattle.row_types.specs.declared.rule.Refused.{Refused}
use Rattle.row_types.specs.declared.rule.Refused.TheVariants as refused
use Rattle.row_types.specs.declared.value.Value.{Value}
use Rattle.table_state.specs.Tables.{TableState}
use Rattle.group_catalog.specs.Catalogs.{groups_in}
use Rattle.group_catalog.specs.declared.which.ResolvedWhich.{ResolvedWhich}
use Rattle.group_store.specs.Stores.{HasRootKeys, Kept, SameButSpare, put_tables}
use Rattle.cache_tier.specs.Groups.{Group, is_read_only}
use Rattle.stored_tier.specs.declared.gathering.Gathered.{Gathered}
use Rattle.stored_tier.specs.declared.tier.Tier.{Tier as Stored}
use Rattle.stored_tier.specs.Gathering.{Gathers}
use Rattle.group_engine.specs.Taking.{Pairs}

-- the group at a place, and its store
pub record IsHere (t : Stored) (place : ℕ) : Type 0 where
  pub group : Group
  pub store : Kept
  pub there : slice_get (groups_in t.catalog) place ≡ Some group
  pub kept : slice_get t.stores.items place ≡ Some store
  pub writes : is_read_only group ≡ false
  pub keyed : HasRootKeys store

-- what they gather from these tables
pub record GathersThere (t : Stored) (place : ℕ) (which : ResolvedWhich) (refreshes : Bool) (s : TableState)
    (result : Result Gathered Refused) : Type 0 where
  pub here : IsHere t place
  pub is : Gathers s here.group.def.tree here.store which refreshes result

-- memory may be wanting
abbrev pub GathersAt : Stored → ℕ → ResolvedWhich → Bool → TableState → Result Gathered Refused → Type 0
GathersAt t place which refreshes s (Ok g) = GathersThere t place which refreshes s (Ok g)
GathersAt t place which refreshes s (Err (refused.Rule rule)) =
    GathersThere t place which refreshes s (Err (refused.Rule rule))
GathersAt t place which refreshes s (Err refused.Memory) = Unit {0}

-- the store at the place, where there is one, has as many tables
abbrev pub HasPlaceFor : ℕ → List (List (List Value)) → List Kept → Type 0
HasPlaceFor place rows stores =
    (s : Kept) → slice_get stores place ≡ Some s → length rows ≤ length s.layers + 1

-- the store at the place becomes one with these rows, too
pub record IsFilledAt (place : ℕ) (rows : List (List (List Value))) (old new : List Kept) : Type 0 where
  pub store : Kept
  pub filled : Kept
  pub kept : slice_get old place ≡ Some store
  pub rows_in : SameButSpare (put_tables 0 rows store) filled
  pub is : new ≡ slice_set old place filled

abbrev pub FillsAt : ℕ → List (List (List Value)) → List Kept → List Kept → Result (Unit {0}) Refused → Type 0
FillsAt place rows old new (Ok done) = IsFilledAt place rows old new
FillsAt place rows old new (Err e) = Pairs SameButSpare old new
