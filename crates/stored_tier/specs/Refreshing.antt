-- Which READONLY groups are refreshed together, and what a refresh makes of what is stored. (TimesTen Cache User's
-- Guide, "Automatically refreshing a cache group"; that a set is refreshed from one snapshot is this project's rule.)

use Rattle.std.specs.Prelude.{◌≡◌, ℕ, suc, List, [], ◌∷◌, ◌++◌, Bool, true, false, ◌&&◌, ◌||◌, Option, Some, None, Result, Ok, Err, length, map, nat_eq, slice_get, slice_set, unwrap_or, if◌then◌else◌}
use Rattle.std.specs.List.{list_any}
use Rattle.tier_base.specs.declared.number.TableId.{TableId}
use Rattle.table_defs.specs.declared.definition.TableDef.{TableDef}
use Rattle.table_state.specs.Tables.{TableState}
use Rattle.instances.specs.Trees.{is_place}
use Rattle.outside.specs.declared.fault.BankError.{BankError}
use Rattle.group_store.specs.Stores.{HasRootKeys, Kept, SameButSpare}
use Rattle.cache_tier.specs.declared.reply.Reply.{Reply}
use Rattle.cache_tier.specs.Commits.{tables_of}
use Rattle.cache_tier.specs.Groups.{Group, is_explicit, is_read_only}
use Rattle.cache_tier.specs.Sets.{Choice, alone, loaded_state, of_set}
use Rattle.sql_subset.specs.declared.stmt.RefreshState.{RefreshState}
use Rattle.sql_subset.specs.declared.stmt.RefreshState.TheVariants.{On, Off, Paused}
use Rattle.std.specs.FinMap.{len}
use Rattle.std.specs.Option.{option_map}
use Rattle.indexed_rows.specs.Rows.{Table}
use Rattle.slot_rows.specs.SlotKeys.{RowsHeld}
use Rattle.instances.specs.Views.{kept_at}
use Rattle.cache_tier.specs.Worlds.{bank_fault}
use Rattle.stored_tier.specs.declared.moments.SetMoment.{SetMoment}
use Rattle.stored_tier.specs.declared.refreshing.Chosen.{Chosen}
use Rattle.stored_tier.specs.declared.refreshing.Chosen.TheVariants.{Joined, OneAlone, Reloaded}
use Rattle.stored_tier.specs.declared.refreshing.Made.{Made}
use Rattle.stored_tier.specs.Filling.{HidesNone, store_anew}
use Rattle.stored_tier.specs.Moments.{refreshed_in, set_seen}
use Rattle.stored_tier.specs.declared.tier.Tier.{Tier as Stored}
use Rattle.group_catalog.specs.Catalogs.{groups_in}

-- an explicit group whose flag is set: its rows come back when the tier is opened again
abbrev pub is_reloaded : Group → Bool
is_reloaded g = is_explicit g && g.loaded

abbrev pub is_shown_again : Group → Bool
is_shown_again g = is_read_only g && is_reloaded g

-- which groups these are
abbrev pub choice_of : Chosen → Choice
choice_of (Joined interval joining) = of_set interval joining
choice_of (OneAlone place) = alone place
choice_of Reloaded = λ place g. is_shown_again g

-- of the groups those whose store is made anew: they are chosen, and dynamic, or loaded, or are so from now on
abbrev pub is_filled : Choice → Option ℕ → Choice
is_filled chosen loads place g = chosen place g && (g.def.dynamic || (g.loaded || is_place place loads))

-- the tables of the chosen groups, from a place on
abbrev pub tables_read : Choice → ℕ → List Group → List TableId
tables_read chosen place [] = []
tables_read chosen place (g ∷ groups) =
    (if chosen place g then tables_of g.def.tree else []) ++ tables_read chosen (suc place) groups

-- What is made of a group over a state, where this was its store, and these its hidden root rows: its store, and no
-- hidden rows. Root keys are those of root rows.
pub record IsMadeAnew (schema : List TableDef) (state : TableState) (g : Group) (s : Kept) (hidden : Table)
    (m : Made) : Type 0 where
  pub store : SameButSpare (store_anew schema state g s hidden) m.store
  pub hiding : HidesNone schema g (len (kept_at m.store.tables 0)) m.hidden
  pub old : HasRootKeys s
  pub new : HasRootKeys m.store

-- so it is where it is wanted
abbrev pub IsMade : Bool → List TableDef → TableState → Group → Kept → Table → Option Made → Type 0
IsMade true schema state g s hidden None = ⊥
IsMade true schema state g s hidden (Some m) = IsMadeAnew schema state g s hidden m
IsMade false schema state g s hidden o = o ≡ None

-- so it is of each group
pub record AreMade (filled : Choice) (schema : List TableDef) (state : TableState) (groups : List Group)
    (stores : List Kept) (hidden : List RowsHeld) (made : List (Option Made)) : Type 0 where
  pub long : length made ≡ length groups
  pub each : (k : ℕ) (g : Group) (s : Kept) (h : RowsHeld) (o : Option Made) → slice_get groups k ≡ Some g
      → slice_get stores k ≡ Some s → slice_get hidden k ≡ Some h → slice_get made k ≡ Some o
      → IsMade (filled k g) schema state g s h.table o

-- so it is of the group at a place
abbrev pub IsMadeAt : Choice → Stored → TableState → ℕ → Option Made → Type 0
IsMadeAt filled t state k o =
    (g : Group) (s : Kept) (h : RowsHeld) → slice_get (groups_in t.catalog) k ≡ Some g
    → slice_get t.stores.items k ≡ Some s → slice_get t.hidden.items k ≡ Some h
    → IsMade (filled k g) t.schema state g s h.table o

-- the stores that were made, and the hidden rows
abbrev pub made_stores : List (Option Made) → List (Option Kept)
made_stores made = map (option_map (λ (m : Made). m.store)) made

abbrev pub made_hidden : List (Option Made) → List (Option RowsHeld)
made_hidden made = map (option_map (λ (m : Made). m.hidden)) made

-- the elements of a list, with those that were made in place of old ones
abbrev pub exchanged : {X : Type 0} → List X → List (Option X) → List X
exchanged [] made = []
exchanged (s ∷ stores) [] = s ∷ stores
exchanged (s ∷ stores) (o ∷ made) = unwrap_or o s ∷ exchanged stores made

-- an element that was made comes at a place
abbrev pub put_at : {X : Type 0} → ℕ → Option X → List X → List X
put_at place None stores = stores
put_at place (Some s) stores = slice_set stores place s

-- the group at a place is there, and chosen
abbrev pub is_chosen_by : Choice → ℕ → Option Group → Bool
is_chosen_by chosen place None = false
is_chosen_by chosen place (Some g) = chosen place g

abbrev pub is_chosen_in : Choice → List Group → ℕ → Bool
is_chosen_in chosen groups place = is_chosen_by chosen place (slice_get groups place)

-- the group at this position
abbrev pub positioned : ℕ → Group → Group
positioned n g = record g { position = Some n }

-- when a set was refreshed last, and whether that is noted
abbrev pub moment_in : List SetMoment → ℕ → ℕ
moment_in sets interval = refreshed_in (map set_seen sets) interval

abbrev pub is_noted : ℕ → SetMoment → Bool
is_noted interval s = nat_eq s.interval interval

abbrev pub has_moment : List SetMoment → ℕ → Bool
has_moment sets interval = list_any (is_noted interval) sets

-- the last refresh of the set of an interval was tried at this moment
abbrev pub moments_with : ℕ → ℕ → List SetMoment → List SetMoment
moments_with interval now sets = map (λ s. if is_noted interval s then record s { refreshed = now } else s) sets

-- the fault of a call ends a stage
abbrev pub end_of : Result (Unit {0}) BankError → Option Reply
end_of (Ok done) = None
end_of (Err e) = Some (bank_fault e)

-- the group at a place has this STATE when it is loaded
abbrev pub IsStateAt : List Group → ℕ → RefreshState → Type 0
IsStateAt groups place state = (g : Group) → slice_get groups place ≡ Some g → state ≡ loaded_state g.state

-- how many root rows a store keeps
abbrev pub roots_kept : Option Kept → ℕ
roots_kept None = 0
roots_kept (Some s) = len (kept_at s.tables 0)

-- the group is in no set
abbrev pub is_off : RefreshState → Bool
is_off On = false
is_off Paused = false
is_off Off = true
