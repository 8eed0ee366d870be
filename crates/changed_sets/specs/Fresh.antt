-- What a refresh of READONLY groups leaves of what is stored. (TimesTen Cache User's Guide, "Automatically
-- refreshing a cache group"; that all groups of a refresh have one position is this project's rule.)

use Rattle.std.specs.Prelude.{◌≡◌, ◌≤◌, ℕ, suc, List, [], ◌∷◌, Bool, true, false, ◌&&◌, ◌||◌, not, nat_eq, if◌then◌else◌, Option, Some, None, Result, length, slice_get}
use Rattle.std.specs.FinMap.{empty, get}
use Rattle.row_types.specs.declared.value.Value.{Value}
use Rattle.indexed_rows.specs.Rows.{Table, is_same}
use Rattle.recency.specs.Rings.{touched}
use Rattle.slot_rows.specs.SlotKeys.{RowsHeld}
use Rattle.cache_store.specs.Shown.{shown_of}
use Rattle.std.specs.Result.{IsErrOf}
use Rattle.table_defs.specs.declared.definition.TableDef.{TableDef}
use Rattle.table_state.specs.Histories.{state_at}
use Rattle.table_state.specs.Tables.{TableState}
use Rattle.instances.specs.Views.{passes, root_rows}
use Rattle.outside.specs.Faults.{Rose}
use Rattle.outside.specs.declared.fault.BankError.{BankError}
use Rattle.outside.specs.declared.fault.BankError.TheVariants.{Failed}
use Rattle.group_catalog.specs.Catalogs.{groups_in}
use Rattle.group_store.specs.Keeping.{IsFor}
use Rattle.group_store.specs.Stores.{HasRootKeys, Kept}
use Rattle.cache_tier.specs.Groups.{Group, is_key}
use Rattle.cache_tier.specs.Reading.{TellsPosition}
use Rattle.cache_tier.specs.Sets.{Choice, changed_from}
use Rattle.cache_tier.specs.Shown.{exceeds, root_key}
use Rattle.cache_tier.specs.Worlds.{BankCall, World}
use Rattle.stored_tier.specs.declared.tier.Tier.{Tier as Stored}
use Rattle.stored_tier.specs.Performing.{KeepsSlots, StandsFor}
use Rattle.stored_tier.specs.declared.refreshing.Made.{Made}
use Rattle.stored_tier.specs.Filling.{is_held}
use Rattle.stored_tier.specs.Lists.{IsHidingFor, is_by_use}
use Rattle.stored_tier.specs.Refreshing.{exchanged, made_hidden, made_stores, positioned}
use Rattle.stored_tier.specs.Sites.{IsAt}
use Rattle.outside.specs.Sites.{SiteState}

-- Counts and moments don't fall; what others change stays, and so do the slots and the count of the disk's faults. A
-- failed call has its cause.
pub record IsCalled {T : Type 0} (before behind : SiteState) (result : Result T BankError) : Type 0 where
  pub later : before.bank_faults ≤ behind.bank_faults
  pub moment : before.moment ≤ behind.moment
  pub shares : behind.shared ≡ before.shared
  pub slots : KeepsSlots before.held behind.held
  pub disk : behind.disk_faults ≡ before.disk_faults
  pub failed : IsErrOf result Failed → Rose before.bank_faults behind.bank_faults

-- each store that was made has the tables of its group's tree, and there is room to hide its root rows
pub record AreFormed (schema : List TableDef) (groups : List Group) (made : List (Option Made)) : Type 0 where
  pub long : length made ≡ length groups
  pub form : (k : ℕ) (g : Group) (m : Made) → slice_get groups k ≡ Some g → slice_get made k ≡ Some (Some m)
      → IsFor schema g.def.tree m.store
  pub whole : (k : ℕ) (m : Made) → slice_get made k ≡ Some (Some m)
      → length m.store.tables ≡ suc (length m.store.layers)
  pub hiding : (k : ℕ) (g : Group) (m : Made) → slice_get groups k ≡ Some g → slice_get made k ≡ Some (Some m)
      → IsHidingFor schema g m.store m.hidden

-- the root key is that of an instance past the horizon, and of a dynamic group it is one of those that it has, or gains
abbrev pub is_fresh : TableState → Group → Kept → Table → List (List Value) → List Value → Bool
is_fresh state g s hidden more key =
    (not g.def.dynamic || (is_held s hidden key || is_key more key))
    && passes (exceeds g) (get (root_rows state g.def.tree.root) key)

-- keys that are used one after another
abbrev pub keys_touched : List (List Value) → List (List Value) → List (List Value)
keys_touched [] keys = keys
keys_touched (key ∷ used) keys = keys_touched used (touched is_same key keys)

-- What was made shows the instances of a state, where this was the store of the group, these its hidden root rows, and
-- these the root keys that it gains. Where instances leave by last use they are in the order of the old store, and
-- behind them those that are gained. None is hidden.
pub record IsFreshFor (state : TableState) (g : Group) (s : Kept) (hidden : Table) (more : List (List Value))
    (m : Made) : Type 0 where
  pub rows : m.store.tables ≡ shown_of state g.def.tree (is_fresh state g s hidden more)
  pub before : List (List Value)
  pub order : is_by_use g.def.aging ≡ true → m.store.keys ≡ keys_touched more (keys_touched s.keys before)
  pub old : HasRootKeys s
  pub new : HasRootKeys m.store
  pub bare : m.hidden.table ≡ empty

-- so it is where it is wanted
abbrev pub IsViewed : Bool → TableState → Group → Kept → Table → List (List Value) → Option Made → Type 0
IsViewed true state g s hidden more None = ⊥
IsViewed true state g s hidden more (Some m) = IsFreshFor state g s hidden more m
IsViewed false state g s hidden more o = o ≡ None

-- what a group gains where the one at a place gains these keys
abbrev pub gained_at : ℕ → List (List Value) → ℕ → List (List Value)
gained_at place [] k = []
gained_at place (key ∷ more) k = if nat_eq k place then key ∷ more else []

-- root rows of a state stand under their keys
abbrev pub HasOwnKeys : TableState → Group → Type 0
HasOwnKeys state g =
    (key row : List Value) → get (root_rows state g.def.tree.root) key ≡ Some row → root_key state g row ≡ key

-- the stores show instances of the state at this position of a world's history; the group at a place gains these keys
pub record AreGained (t : Stored) (w : World) (filled : Choice) (place : ℕ) (more : List (List Value)) (n : ℕ)
    (made : List (Option Made)) : Type 0 where
  pub state : TableState
  pub there : state_at w.history n ≡ Some state
  pub within : n ≤ length w.history
  pub keyed : (k : ℕ) (g : Group) → slice_get (groups_in t.catalog) k ≡ Some g → HasOwnKeys state g
  pub views : (k : ℕ) (g : Group) (s : Kept) (h : RowsHeld) (o : Option Made)
      → slice_get (groups_in t.catalog) k ≡ Some g
      → slice_get t.stores.items k ≡ Some s → slice_get t.hidden.items k ≡ Some h → slice_get made k ≡ Some o
      → IsViewed (filled k g) state g s h.table (gained_at place more k) o

-- none gains any
abbrev pub AreFresh : Stored → World → Choice → ℕ → List (Option Made) → Type 0
AreFresh t w filled n made = AreGained t w filled 0 [] n made

-- a world behind a call that tells a position: the tier is as it was, and stands
pub record IsRead (t : Stored) (behind : SiteState) (told : Result ℕ BankError) (w : World) : Type 0 where
  pub world : World
  pub at : IsAt behind world
  pub stands : StandsFor t world
  pub call : BankCall (TellsPosition told) w world
  pub tier : world.tier ≡ w.tier

-- the stores that were made are in their places, with their hidden rows, and the chosen groups are at the position; all
-- else stays
pub record IsExchanged (old new : Stored) (chosen : Choice) (n : ℕ) (made : List (Option Made)) : Type 0 where
  pub schema : new.schema ≡ old.schema
  pub visible : new.visible ≡ old.visible
  pub stale : new.stale ≡ old.stale
  pub groups : groups_in new.catalog ≡ changed_from chosen (positioned n) 0 (groups_in old.catalog)
  pub stores : new.stores.items ≡ exchanged old.stores.items (made_stores made)
  pub hidden : new.hidden.items ≡ exchanged old.hidden.items (made_hidden made)
  pub directory : new.directory ≡ old.directory
  pub sessions : new.sessions ≡ old.sessions
  pub unsettled : new.unsettled ≡ old.unsettled
  pub writers : new.writers ≡ old.writers
  pub next : new.next ≡ old.next
  pub clock : new.clock ≡ old.clock
