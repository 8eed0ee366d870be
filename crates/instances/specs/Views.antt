-- The view of a cache group, and its instances. (TimesTen Cache User's Guide, "Cache groups" and "Cache instances";
-- that a WHERE that is 120 on a row doesn't select it, and refuses nothing, is this project's rule.)

use Rattle.std.specs.Prelude.{ℕ, List, [], ◌∷◌, ◌++◌, Option, Some, None, Bool, true, false, ◌&&◌, slice_get, unwrap_or}
use Rattle.std.specs.FinMap.{empty, contains_key, get, retain_keys}
use Rattle.expressions.specs.row_types.specs.declared.truth.Truth.{Truth}
use Rattle.expressions.specs.row_types.specs.declared.truth.Truth.TheVariants.{True, False, Unknown}
use Rattle.expressions.specs.row_types.specs.declared.value.Value.{Value}
use Rattle.table_state.specs.table_defs.specs.declared.definition.TableDef.{TableDef}
use Rattle.table_state.specs.table_defs.specs.Declarations.{foreign_places}
use Rattle.table_state.specs.indexed_rows.specs.Rows.{Table, is_same, key_of}
use Rattle.table_state.specs.Tables.{TableState, table_at}
use Rattle.expressions.specs.Trees.{Cond}
use Rattle.expressions.specs.Conditions.{holds}
use Rattle.instances.specs.declared.tree.Child.{Child}
use Rattle.instances.specs.declared.tree.Root.{Root}
use Rattle.instances.specs.declared.tree.Tree.{Tree}

abbrev pub is_true : Option Truth → Bool
is_true None = false
is_true (Some True) = true
is_true (Some False) = false
is_true (Some Unknown) = false

-- the WHERE selects the row; one that is 120 on it doesn't, and where there is none each row is selected
abbrev pub selects : Option Cond → List Value → Bool
selects None row = true
selects (Some c) row = is_true (holds c row)

abbrev pub passes : (List Value → Bool) → Option (List Value) → Bool
passes test None = false
passes test (Some row) = test row

-- the rows of a table that pass a test
abbrev pub rows_where : (List Value → Bool) → Table → Table
rows_where test table = retain_keys table (λ key. passes test (get table key))

-- the row refers by its table's foreign key to one of these rows
abbrev pub refers_to_one : Table → Option TableDef → List Value → Bool
refers_to_one parents None row = false
refers_to_one parents (Some def) row = contains_key parents (key_of (foreign_places def.foreign_key) row)

-- a child row is kept where its own WHERE selects it and its parent row is kept
abbrev pub is_kept : TableState → Table → Child → List Value → Bool
is_kept s parents child row = selects child.filter row && refers_to_one parents (slice_get s.schema child.table.0) row

abbrev pub child_rows : TableState → Table → Child → Table
child_rows s parents child = rows_where (is_kept s parents child) (table_at s child.table)

-- the rows that are kept of the table at a place
abbrev pub kept_at : List Table → ℕ → Table
kept_at kept place = unwrap_or (slice_get kept place) empty

-- what is kept of the earlier tables, and behind it what is kept of these children in turn
abbrev pub with_children : TableState → List Child → List Table → List Table
with_children s [] kept = kept
with_children s (child ∷ children) kept =
    with_children s children (kept ++ child_rows s (kept_at kept child.parent) child ∷ [])

-- a root row is in the view where the root's WHERE selects it
abbrev pub root_rows : TableState → Root → Table
root_rows s root = rows_where (selects root.filter) (table_at s root.table)

-- the view: for each table of the tree its rows by primary key
abbrev pub view_of : TableState → Tree → List Table
view_of s tree = with_children s tree.children (root_rows s tree.root ∷ [])

-- the row of this key alone
abbrev pub only : List Value → Table → Table
only key table = retain_keys table (λ other. is_same other key)

-- the instance of a root key: its row and the rows of the view that are reached from it, for each table by primary key
abbrev pub instance_of : TableState → Tree → List Value → List Table
instance_of s tree key = with_children s tree.children (only key (root_rows s tree.root) ∷ [])
