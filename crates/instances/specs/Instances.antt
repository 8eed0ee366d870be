-- How the view, its instances and root keys go together.

use Rattle.std.specs.Prelude.{◌≡◌, ℕ, List, Some}
use Rattle.std.specs.FinMap.{get}
use Rattle.expressions.specs.row_types.specs.declared.value.Value.{Value}
use Rattle.table_state.specs.indexed_rows.specs.Rows.{Table}
use Rattle.table_state.specs.Tables.{TableState}
use Rattle.instances.specs.declared.tree.Tree.{Tree}
use Rattle.instances.specs.Roots.{root_at}
use Rattle.instances.specs.Views.{instance_of, kept_at, view_of}

-- the row stands under this key among those of the table at a place
abbrev pub IsIn : List Table → ℕ → List Value → List Value → Type 0
IsIn kept place key row = get (kept_at kept place) key ≡ Some row

-- each row of an instance is one of the view
abbrev pub IsPart : TableState → Tree → Type 0
IsPart s tree = (root : List Value) (place : ℕ) (key row : List Value) → IsIn (instance_of s tree root) place key row
    → IsIn (view_of s tree) place key row

-- each row of the view is in the instance of the root key that it is reached from
abbrev pub IsCovered : TableState → Tree → Type 0
IsCovered s tree = (place : ℕ) (key row : List Value) → IsIn (view_of s tree) place key row
    → (root : List Value) × (root_at s tree place key ≡ Some root) × IsIn (instance_of s tree root) place key row

-- and in no other
abbrev pub IsApart : TableState → Tree → Type 0
IsApart s tree = (root : List Value) (place : ℕ) (key row : List Value) → IsIn (instance_of s tree root) place key row
    → root_at s tree place key ≡ Some root
