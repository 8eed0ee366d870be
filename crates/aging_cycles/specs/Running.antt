-- What cycles make of what is stored. (TimesTen Cache User's Guide, "Implementing aging on a cache group".)

use Rattle.std.specs.Prelude.{◌≡◌, ◌≢◌, ◌≤◌, ◌<◌, ℕ, ℤ, List, [], ◌∷◌, Bool, true, false, length, Option, Some, None, set, slice_get, if◌then◌else◌}
use Rattle.std.specs.Bool.{MatchBool}
use Rattle.std.specs.FinMap.{get, len}
use Rattle.row_types.specs.declared.value.Value.{Value}
use Rattle.indexed_rows.specs.Rows.{Table}
use Rattle.instances.specs.Views.{kept_at}
use Rattle.slot_rows.specs.SlotKeys.{RowsHeld}
use Rattle.group_store.specs.Hiding.{hidden_with}
use Rattle.group_store.specs.Stores.{Kept, SameButSpare, cut_store}
use Rattle.group_catalog.specs.Catalogs.{groups_in}
use Rattle.cache_tier.specs.Groups.{Group}
use Rattle.cache_tier.specs.Sets.{alone, changed_from}
use Rattle.stored_tier.specs.Grouping.{KeepsBesideGroups}
use Rattle.stored_tier.specs.Lists.{IsHidingFor, hides_keys}
use Rattle.stored_tier.specs.declared.tier.Tier.{Tier as Stored}
use Rattle.aging_cycles.specs.Cycles.{horizon_behind, is_due_at, keys_leaving}

-- without the instances of these root keys
abbrev pub cut_all : List (List Value) → Kept → Kept
cut_all [] s = s
cut_all (key ∷ keys) s = cut_all keys (cut_store 0 key s)

-- the hidden root rows, with those of these instances
abbrev pub hidden_all : List (List Value) → Kept → Table → Table
hidden_all [] s hidden = hidden
hidden_all (key ∷ keys) s hidden =
    hidden_all keys (cut_store 0 key s) (hidden_with (get (kept_at s.tables 0) key) key hidden)

-- room for the root rows of a store
abbrev pub HasRoom : Kept → RowsHeld → Type 0
HasRoom s h = len (kept_at s.tables 0) ≤ h.spare

-- Instances have left a store, and are hidden where that is asked for: then there was room for their root rows, and
-- still is for the others.
pub record Leaves (hides : Bool) (keys : List (List Value)) (s left : Kept) (h behind : RowsHeld) : Type 0 where
  pub gone : SameButSpare (cut_all keys s) left
  pub rows : behind.table ≡ (if hides then hidden_all keys s h.table else h.table)
  pub key : behind.places ≡ h.places
  pub room : hides ≡ true → HasRoom s h → HasRoom left behind

-- a group's store and hidden root rows behind a cycle
abbrev pub HasLeft : Group → List (List Value) → Kept → Kept → RowsHeld → RowsHeld → Type 0
HasLeft g keys s left h behind = Leaves (hides_keys g) keys s left h behind

-- at a place all stays
pub record StaysAt (old new : Stored) (k : ℕ) : Type 0 where
  pub groups : slice_get (groups_in new.catalog) k ≡ slice_get (groups_in old.catalog) k
  pub stores : slice_get new.stores.items k ≡ slice_get old.stores.items k
  pub hidden : slice_get new.hidden.items k ≡ slice_get old.hidden.items k

-- the group behind its cycle
abbrev pub behind_cycle : ℕ → Group → Group
behind_cycle now g = record g { horizon = horizon_behind now g.def.aging g.horizon; aged = now }

-- the groups, where that at a place is behind a cycle that leaves this horizon
abbrev pub turned : ℕ → Option ℤ → ℕ → List Group → List Group
turned k horizon now groups =
    changed_from (alone k) (λ g. record g { aged = now }) 0
    (changed_from (alone k) (λ g. record g { horizon = horizon }) 0 groups)

-- the horizon that the cycle of the group at a place leaves, where it is due
abbrev pub DueHorizon : Stored → ℕ → Option (Option ℤ) → Type 0
DueHorizon t k None = is_due_at t k ≡ false
DueHorizon t k (Some horizon) =
    (is_due_at t k ≡ true)
    × ((g : Group) → slice_get (groups_in t.catalog) k ≡ Some g
    → horizon ≡ horizon_behind t.clock.now g.def.aging g.horizon)

-- at a place a cycle has run
pub record RunsAt (old new : Stored) (k : ℕ) : Type 0 where
  pub group : Group
  pub store : Kept
  pub left : Kept
  pub hidden : RowsHeld
  pub behind : RowsHeld
  pub there : slice_get (groups_in old.catalog) k ≡ Some group
  pub kept : slice_get old.stores.items k ≡ Some store
  pub hid : slice_get old.hidden.items k ≡ Some hidden
  pub group_is : slice_get (groups_in new.catalog) k ≡ Some (behind_cycle old.clock.now group)
  pub left_is : slice_get new.stores.items k ≡ Some left
  pub behind_is : slice_get new.hidden.items k ≡ Some behind
  pub does : HasLeft group (keys_leaving old group store) store left hidden behind

-- where its cycle is due it has run
abbrev pub RunsIn : Stored → Stored → ℕ → Type 0
RunsIn old new k = MatchBool (is_due_at old k) (RunsAt old new k) (StaysAt old new k)

-- the instances that the cycle of the group at a place takes leave its store, or are hidden
pub record LeavesAt (old new : Stored) (k : ℕ) (group : Group) : Type 0 where
  pub store : Kept
  pub left : Kept
  pub hidden : RowsHeld
  pub behind : RowsHeld
  pub kept : slice_get old.stores.items k ≡ Some store
  pub hid : slice_get old.hidden.items k ≡ Some hidden
  pub does : HasLeft group (keys_leaving old group store) store left hidden behind
  pub stores : new.stores.items ≡ set old.stores.items k left
  pub rows : new.hidden.items ≡ set old.hidden.items k behind

-- Where it is known that sessions may read and write, it was, and no row has left.
abbrev pub KeepsNote : Stored → Stored → Type 0
KeepsNote old new = new.verified ≡ true → (old.verified ≡ true) × (new.stores.items ≡ old.stores.items)

-- there are as many groups, stores and lists of hidden rows, and beside them nothing changes
pub record KeepsForm (old new : Stored) : Type 0 where
  pub beside : KeepsBesideGroups old new
  pub visible : new.visible ≡ old.visible
  pub directory : new.directory ≡ old.directory
  pub verified : KeepsNote old new
  pub groups : length (groups_in new.catalog) ≡ length (groups_in old.catalog)
  pub stores : length new.stores.items ≡ length old.stores.items
  pub hidden : length new.hidden.items ≡ length old.hidden.items

-- the cycle at a place has run, where it is due
pub record RunsOne (old new : Stored) (k : ℕ) : Type 0 where
  pub form : KeepsForm old new
  pub here : RunsIn old new k
  pub others : (j : ℕ) → j ≢ k → StaysAt old new j

-- all cycles that are due have run
pub record HaveRun (old new : Stored) : Type 0 where
  pub form : KeepsForm old new
  pub each : (k : ℕ) → RunsIn old new k

-- so many have, and the others haven't yet
pub record HaveRunTo (n : ℕ) (old new : Stored) : Type 0 where
  pub form : KeepsForm old new
  pub each : (k : ℕ) → k < n → RunsIn old new k
  pub rest : (k : ℕ) → n ≤ k → StaysAt old new k

-- the hidden rows at a place are those of its group, and there is room for more
abbrev pub HidesAt : Stored → ℕ → Type 0
HidesAt t k =
    (g : Group) (s : Kept) (h : RowsHeld) → slice_get (groups_in t.catalog) k ≡ Some g
    → slice_get t.stores.items k ≡ Some s → slice_get t.hidden.items k ≡ Some h
    → (h.places ≡ s.key) × IsHidingFor t.schema g s h
