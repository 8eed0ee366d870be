-- What a refresh by the changed instances makes of a store. (TimesTen Cache User's Guide, "Automatically refreshing a
-- cache group": incremental autorefresh; that it goes by whole instances is this project's rule.)

use Rattle.std.specs.Prelude.{◌≡◌, ℕ, List, Bool, true, false, Some, map, slice_get}
use Rattle.row_types.specs.declared.value.Value.{Value}
use Rattle.table_defs.specs.declared.definition.TableDef.{TableDef}
use Rattle.tier_base.specs.declared.number.TableId.{TableId}
use Rattle.table_state.specs.Sound.{IsUnderKeys}
use Rattle.table_state.specs.Tables.{TableState, table_at}
use Rattle.instances.specs.declared.tree.Tree.{Tree}
use Rattle.instances.specs.Trees.{is_sound}
use Rattle.instances.specs.Views.{instance_of}
use Rattle.outside.specs.Laws.{is_told}
use Rattle.outside.specs.Reaching.{instance_under}
use Rattle.outside.specs.declared.changes.Touched.{Touched}
use Rattle.group_store.specs.Keeping.{IsFor, KeepsShown}
use Rattle.group_store.specs.Stores.{Kept}
use Rattle.changed_sets.specs.Turning.{cut_of, turn_of, turned}

-- Of a tree the instances that were told, each once, are those of the second state, and another has the rows that it
-- had in the first.
pub record TellsTree (from to : TableState) (tree : Tree) (told : List Touched) : Type 0 where
  pub now : (i : ℕ) (t : Touched) → slice_get told i ≡ Some t → t.instance ≡ instance_under to tree t.instance.root
  pub once :
      (i j : ℕ) (a b : Touched) → slice_get told i ≡ Some a → slice_get told j ≡ Some b
      → a.instance.root ≡ b.instance.root → i ≡ j
  pub stays : (root : List Value) → is_told told root ≡ false → instance_of to tree root ≡ instance_of from tree root

-- The roots that are shown then: told ones as they are chosen, and of the others those that were shown.
pub record ChoosesTold (told : List Touched) (shown : Touched → Bool) (was now : List Value → Bool) : Type 0 where
  pub chosen : (i : ℕ) (t : Touched) → slice_get told i ≡ Some t → shown t ≡ now t.instance.root
  pub others : (root : List Value) → is_told told root ≡ false → now root ≡ was root

-- the rows of each table stand under their primary keys
abbrev pub AreUnderKeys : TableState → Type 0
AreUnderKeys s =
    (t : TableId) (def : TableDef) → slice_get s.schema t.0 ≡ Some def → IsUnderKeys def.primary_key (table_at s t)

-- A store that shows instances of the first state shows those of the second, once the told ones were cut down, and
-- those of them that are shown then were put in.
abbrev pub ShowsChanged : TableState → TableState → Tree → Type 0
ShowsChanged from to tree =
    (told : List Touched) (shown : Touched → Bool) (was now : List Value → Bool) (s : Kept)
    → AreUnderKeys to → is_sound to.schema tree ≡ true → IsFor to.schema tree s
    → TellsTree from to tree told → ChoosesTold told shown was now
    → KeepsShown from tree was s
    → KeepsShown to tree now (turned (map (cut_of shown) told) (map (turn_of shown) told) s)
