-- Stores that are made anew from a state of the backing tables. (TimesTen Cache User's Guide, "Read-only cache groups",
-- "Dynamic cache groups", "Implementing aging on a cache group"; that a group shows its view past the horizon is this
-- project's rule.)

use Rattle.std.specs.Prelude.{◌≡◌, ◌≤◌, ℕ, List, [], ◌∷◌, Bool, true, ◌&&◌, ◌||◌, not, Option, None, Some, map, if◌then◌else◌}
use Rattle.std.specs.FinMap.{contains_key, empty, values}
use Rattle.row_types.specs.declared.value.Value.{Value}
use Rattle.indexed_rows.specs.Rows.{Table}
use Rattle.table_defs.specs.declared.definition.TableDef.{TableDef}
use Rattle.table_state.specs.Tables.{TableState, table_at}
use Rattle.instances.specs.declared.tree.Child.{Child}
use Rattle.instances.specs.declared.tree.Tree.{Tree}
use Rattle.tier_base.specs.declared.number.TableId.{TableId}
use Rattle.instances.specs.Views.{kept_at, selects, with_children}
use Rattle.slot_rows.specs.SlotKeys.{RowsHeld}
use Rattle.group_store.specs.Keeping.{layer_for, primary_of}
use Rattle.group_store.specs.Shown.{foreign_key_of}
use Rattle.group_store.specs.Stores.{Kept, put_tables, touched_store}
use Rattle.cache_tier.specs.Groups.{Group}
use Rattle.cache_tier.specs.Shown.{exceeds}
use Rattle.stored_tier.specs.Choosing.{chosen}
use Rattle.stored_tier.specs.Lists.{hides_keys, is_by_use}

-- a store of a tree's root and of some of its children, without rows
abbrev pub bare_front : List TableDef → Tree → List Child → Kept
bare_front schema tree children = record {
  table = tree.root.table;
  key = primary_of schema tree.root.table;
  foreign = foreign_key_of schema tree.root.table;
  layers = map (layer_for schema) children;
  tables = empty ∷ map (λ child. empty) children;
  keys = [];
  spare = 0;
}

-- the columns of the primary key of a table, where there is one
abbrev pub parent_key : List TableDef → Option TableId → List ℕ
parent_key schema None = []
parent_key schema (Some table) = primary_of schema table

-- a store of a tree without rows
abbrev pub bare_store : List TableDef → Tree → Kept
bare_store schema tree = bare_front schema tree tree.children

-- the group has the key: a root row of its store, or a hidden one
abbrev pub is_held : Kept → Table → List Value → Bool
is_held s hidden key = contains_key (kept_at s.tables 0) key || contains_key hidden key

-- the root rows of a store that is made anew: of a dynamic group those whose keys it has, and they are past the horizon
abbrev pub comes_anew : Group → Kept → Table → List Value → List Value → Bool
comes_anew g s hidden key row =
    (not g.def.dynamic || is_held s hidden key) && (selects g.def.tree.root.filter row && exceeds g row)

abbrev pub roots_anew : TableState → Group → Kept → Table → Table
roots_anew state g s hidden = chosen (comes_anew g s hidden) (table_at state g.def.tree.root.table)

-- its tables: behind the roots the rows of their instances
abbrev pub tables_anew : TableState → Group → Kept → Table → List Table
tables_anew state g s hidden = with_children state g.def.tree.children (roots_anew state g s hidden ∷ [])

-- keys are used one after another
abbrev pub touched_all : List (List Value) → Kept → Kept
touched_all [] s = s
touched_all (key ∷ keys) s = touched_all keys (touched_store key s)

-- where instances leave by last use, they come in the order of the old store
abbrev pub ordered : Group → Kept → Kept → Kept
ordered g old s = if is_by_use g.def.aging then touched_all old.keys s else s

-- a store of a group that is made anew over a state, where this was its store, and these are its hidden root rows
abbrev pub store_anew : List TableDef → TableState → Group → Kept → Table → Kept
store_anew schema state g s hidden =
    ordered g s (put_tables 0 (map values (tables_anew state g s hidden)) (bare_store schema g.def.tree))

-- no hidden root rows of a group, and room for so many, where it hides some
pub record HidesNone (schema : List TableDef) (g : Group) (roots : ℕ) (h : RowsHeld) : Type 0 where
  pub key : h.places ≡ primary_of schema g.def.tree.root.table
  pub room : hides_keys g ≡ true → roots ≤ h.spare
  pub none : h.table ≡ empty
