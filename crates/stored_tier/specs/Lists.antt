-- The lists of keys that groups keep beside their rows. (TimesTen Cache User's Guide, "Dynamic cache groups",
-- "Implementing aging on a cache group".)

use Rattle.std.specs.Prelude.{◌≡◌, ◌≤◌, List, [], ◌∷◌, Bool, true, false, ◌&&◌, ◌||◌, Option, Some, None}
use Rattle.std.specs.Bool.{MatchBool}
use Rattle.std.specs.FinMap.{contains_key, empty, get, len}
use Rattle.std.specs.Option.{option_and_then}
use Rattle.row_types.specs.declared.value.Value.{Value}
use Rattle.indexed_rows.specs.Rows.{Table}
use Rattle.table_defs.specs.declared.definition.TableDef.{TableDef}
use Rattle.table_state.specs.declared.history.Entry.{Entry}
use Rattle.table_state.specs.Histories.{state_at}
use Rattle.table_state.specs.Tables.{TableState}
use Rattle.instances.specs.declared.tree.Root.{Root}
use Rattle.instances.specs.Views.{kept_at, root_rows}
use Rattle.slot_rows.specs.SlotKeys.{RowsHeld}
use Rattle.group_store.specs.Keeping.{primary_of}
use Rattle.group_store.specs.Stores.{Kept}
use Rattle.cache_tier.specs.declared.group.AgingRule.{AgingRule}
use Rattle.cache_tier.specs.declared.group.AgingRule.TheVariants.{ByTime, LastUse}
use Rattle.cache_tier.specs.Groups.{Group, has_list, is_key, is_read_only}

-- instances leave by last use, or by time
abbrev pub is_by_use : Option AgingRule → Bool
is_by_use None = false
is_by_use (Some LastUse) = true
is_by_use (Some (ByTime rule)) = false

abbrev pub is_by_time : Option AgingRule → Bool
is_by_time None = false
is_by_time (Some LastUse) = false
is_by_time (Some (ByTime rule)) = true

-- The group keeps keys in its list of instances that it doesn't show: it is READONLY and DYNAMIC, and its instances
-- leave by time.
abbrev pub hides_keys : Group → Bool
hides_keys g = (is_read_only g && g.def.dynamic) && is_by_time g.def.aging

-- these are the keys of a store, and the hidden ones, in whatever order
abbrev pub HasKeysOf : List (List Value) → Kept → Table → Type 0
HasKeysOf keys s hidden = (key : List Value) → is_key keys key ≡ (is_key s.keys key || contains_key hidden key)

-- The keys of a group's list: where its instances leave by last use they are those of its store, in their order; of
-- another group that is DYNAMIC the order plays no part. What an explicit group shows tells its list; an explicit
-- READONLY one, which shows its whole view, has none.
abbrev pub IsListed : Group → Kept → Table → Type 0
IsListed g s hidden =
    MatchBool (has_list g && is_by_use g.def.aging) (g.keys ≡ s.keys)
    (MatchBool g.def.dynamic (HasKeysOf g.keys s hidden) (Unit {0}))

-- so it is of each group
abbrev pub AreListed : List Group → List Kept → List RowsHeld → Type 0
AreListed [] stores hidden = Unit {0}
AreListed (g ∷ groups) [] hidden = ⊥
AreListed (g ∷ groups) (s ∷ stores) [] = ⊥
AreListed (g ∷ groups) (s ∷ stores) (h ∷ hidden) = IsListed g s h.table × AreListed groups stores hidden

-- The hidden root rows of a group stand by its root's key. There is room for each root row of its store, so that hiding
-- takes no memory; a group that hides none has none.
pub record IsHidingFor (schema : List TableDef) (g : Group) (s : Kept) (h : RowsHeld) : Type 0 where
  pub key : h.places ≡ primary_of schema g.def.tree.root.table
  pub room : hides_keys g ≡ true → len (kept_at s.tables 0) ≤ h.spare
  pub none : hides_keys g ≡ false → h.table ≡ empty

-- so it is of each group
abbrev pub AreHiding : List TableDef → List Group → List Kept → List RowsHeld → Type 0
AreHiding schema [] stores [] = Unit {0}
AreHiding schema [] stores (h ∷ hidden) = ⊥
AreHiding schema (g ∷ groups) stores [] = ⊥
AreHiding schema (g ∷ groups) [] (h ∷ hidden) = ⊥
AreHiding schema (g ∷ groups) (s ∷ stores) (h ∷ hidden) =
    IsHidingFor schema g s h × AreHiding schema groups stores hidden

-- the root rows of a view of a state, where there is one
abbrev pub view_roots : Option TableState → Root → Table
view_roots None root = empty
view_roots (Some s) root = root_rows s root

-- the hidden root rows of a group are those of its view of the backing state at its position
abbrev pub HidesView : List Entry → Group → Table → Type 0
HidesView history g hidden =
    (key row : List Value) → get hidden key ≡ Some row
    → get (view_roots (option_and_then (state_at history) g.position) g.def.tree.root) key ≡ Some row
