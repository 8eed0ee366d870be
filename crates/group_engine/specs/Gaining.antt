-- What a dynamic READONLY group gains by LOAD, and which of its instances REFRESH touches. (TimesTen SQL Reference,
-- "LOAD CACHE GROUP", "REFRESH CACHE GROUP"; that instances past the horizon alone come is this project's rule.)

use Rattle.std.specs.Prelude.{◌≡◌, ℕ, List, [], ◌∷◌, Bool, true, false, ◌&&◌, ◌||◌, not, nat_eq, is_none, Option, Some, None, length, slice_get, if◌then◌else◌}
use Rattle.std.specs.List.{list_any}
use Rattle.std.specs.FinMap.{empty, entries, keys, len, values}
use Rattle.row_types.specs.declared.value.Value.{Value}
use Rattle.indexed_rows.specs.Rows.{Table, key_of, put_in}
use Rattle.table_defs.specs.declared.definition.TableDef.{TableDef}
use Rattle.table_state.specs.Tables.{TableState, table_at}
use Rattle.evaluator.specs.Writes.{selects as judges}
use Rattle.instances.specs.Views.{kept_at}
use Rattle.slot_rows.specs.SlotKeys.{RowsHeld}
use Rattle.group_catalog.specs.Catalogs.{groups_in}
use Rattle.group_catalog.specs.declared.which.ResolvedWhich.{ResolvedWhich}
use Rattle.group_store.specs.Stores.{HasRootKeys, Kept, SameButSpare}
use Rattle.cache_tier.specs.Groups.{Group}
use Rattle.cache_tier.specs.Sets.{Choice}
use Rattle.stored_tier.specs.declared.refreshing.Made.{Made}
use Rattle.stored_tier.specs.declared.tier.Tier.{Tier as Stored}
use Rattle.stored_tier.specs.Choosing.{chosen, matches_at}
use Rattle.stored_tier.specs.Filling.{HidesNone, is_held, store_anew, touched_all}
use Rattle.group_engine.specs.declared.gaining.Gained.{Gained}
pub use Rattle.changed_sets.specs.Gains.{is_past_row}

-- the condition is judged on it: for REFRESH the group has the instance
abbrev pub is_judged : Bool → Group → Kept → Table → List Value → List Value → Bool
is_judged refreshes g s hidden key row = is_past_row g row && (not refreshes || is_held s hidden key)

-- LOAD brings the instances that match and that the group doesn't have, and REFRESH those that match and that it has
abbrev pub is_taken : Bool → ResolvedWhich → Group → Kept → Table → List Value → List Value → Bool
is_taken refreshes which g s hidden key row =
    is_past_row g row
    && (matches_at which key row && (if refreshes then is_held s hidden key else not (is_held s hidden key)))

abbrev pub taken_in : Bool → ResolvedWhich → Group → Kept → Table → TableState → Table
taken_in refreshes which g s hidden state =
    chosen (is_taken refreshes which g s hidden) (table_at state g.def.tree.root.table)

-- the condition is 120 on a root row
abbrev pub is_bad : Bool → ResolvedWhich → Group → Kept → Table → List Value → List Value → Bool
is_bad refreshes which g s hidden key row = is_judged refreshes g s hidden key row && is_none (judges which.filter row)

abbrev pub any_bad : (List Value → List Value → Bool) → Table → Bool
any_bad test rows = list_any (λ (e : List Value × List Value). test e.0 e.1) (entries rows)

abbrev pub overflows_past : Bool → ResolvedWhich → Group → Kept → Table → TableState → Bool
overflows_past refreshes which g s hidden state =
    any_bad (is_bad refreshes which g s hidden) (table_at state g.def.tree.root.table)

-- rows are put in, one after another, each where its key has none
abbrev pub rows_put : List ℕ → List (List Value) → Table → Table
rows_put places [] t = t
rows_put places (row ∷ rows) t = rows_put places rows (put_in t (key_of places row) row)

-- the hidden root rows of a group with these beside them
abbrev pub widened : RowsHeld → Table → Table
widened h gained = rows_put h.places (values gained) h.table

-- What is made of a group over a state, where this was its store, these are the root rows that it has beside those of
-- the store, and these keys are used last.
pub record IsMadeWith (schema : List TableDef) (state : TableState) (g : Group) (s : Kept) (hidden : Table)
    (more : List (List Value)) (m : Made) : Type 0 where
  pub store : SameButSpare (touched_all more (store_anew schema state g s hidden)) m.store
  pub hiding : HidesNone schema g (len (kept_at m.store.tables 0)) m.hidden
  pub old : HasRootKeys s
  pub new : HasRootKeys m.store

-- so it is where it is wanted
abbrev pub IsMadeFor : Bool → List TableDef → TableState → Group → Kept → Table → List (List Value) → Option Made
    → Type 0
IsMadeFor true schema state g s hidden more None = ⊥
IsMadeFor true schema state g s hidden more (Some m) = IsMadeWith schema state g s hidden more m
IsMadeFor false schema state g s hidden more o = o ≡ None

-- what was made of a group is used at the keys of these root rows
pub record UsesLast (rows : Table) (old new : Made) : Type 0 where
  pub store : SameButSpare (touched_all (keys rows) old.store) new.store
  pub roots : HasRootKeys new.store
  pub hidden : new.hidden ≡ old.hidden

abbrev pub TouchesMade : Table → Option Made → Option Made → Type 0
TouchesMade rows None new = new ≡ None
TouchesMade rows (Some old) None = ⊥
TouchesMade rows (Some old) (Some new) = UsesLast rows old new

-- so it is of what was made at a place
pub record TouchesAt (place : ℕ) (rows : Table) (old new : List (Option Made)) : Type 0 where
  pub long : length new ≡ length old
  pub there : (o x : Option Made) → slice_get old place ≡ Some o → slice_get new place ≡ Some x → TouchesMade rows o x
  pub others : (k : ℕ) → nat_eq k place ≡ false → slice_get new k ≡ slice_get old k

-- the tier is as it was
pub record IsSameTier (old new : Stored) : Type 0 where
  pub elsewhere : new ≡ record old { hidden = new.hidden }
  pub hidden : new.hidden.items ≡ old.hidden.items

-- the group at a place, its store and its hidden root rows
pub record IsStoredAt (t : Stored) (place : ℕ) (g : Group) (s : Kept) (h : RowsHeld) : Type 0 where
  pub there : slice_get (groups_in t.catalog) place ≡ Some g
  pub kept : slice_get t.stores.items place ≡ Some s
  pub held : slice_get t.hidden.items place ≡ Some h

-- so it is of each group, where the one at a place gains the instances of these root rows
pub record AreMadeGaining (filled : Choice) (t : Stored) (place : ℕ) (gained : Table) (state : TableState)
    (made : List (Option Made)) : Type 0 where
  pub long : length made ≡ length (groups_in t.catalog)
  pub each : (k : ℕ) (g : Group) (s : Kept) (h : RowsHeld) (o : Option Made) → IsStoredAt t k g s h
      → slice_get made k ≡ Some o
      → IsMadeFor (filled k g) t.schema state g s (if nat_eq k place then widened h gained else h.table)
      (if nat_eq k place then keys gained else []) o

-- what is asked of the group at a place: whether the condition is 120, and which root rows are taken
abbrev pub TellsOverflow : Stored → ℕ → ResolvedWhich → Bool → TableState → Bool → Type 0
TellsOverflow t place which refreshes state result =
    (g : Group) (s : Kept) (h : RowsHeld) → IsStoredAt t place g s h
    → HasRootKeys s × (result ≡ overflows_past refreshes which g s h.table state)

abbrev pub TakesRoots : Stored → ℕ → ResolvedWhich → Bool → TableState → Table → Type 0
TakesRoots t place which refreshes state rows =
    (g : Group) (s : Kept) (h : RowsHeld) → IsStoredAt t place g s h
    → rows ≡ taken_in refreshes which g s h.table state

-- LOAD gains what it takes, and REFRESH nothing
abbrev pub gained_of : Bool → Table → Table
gained_of refreshes rows = if refreshes then empty else rows

-- what is made where the group at a place is loaded or refreshed, and what the reply tells
pub record IsGained (t : Stored) (place : ℕ) (which : ResolvedWhich) (refreshes : Bool) (filled : Choice)
    (state : TableState) (gained : Gained) : Type 0 where
  pub rows : Table
  pub taken : TakesRoots t place which refreshes state rows
  pub count : gained.count ≡ len rows
  pub made : AreMadeGaining filled t place (gained_of refreshes rows) state gained.made.items
