-- Root rows of instances that aging by time hides. (TimesTen Cache User's Guide, "Implementing aging in a cache group";
-- that a hidden key stays until the next refresh is this project's rule.)
use Rattle.std.specs.Prelude.{◌≡◌, List, Option, Some, None, Bool, ◌&&◌, ◌||◌}
use Rattle.std.specs.FinMap.{get, retain_keys}
use Rattle.slot_rows.specs.row_types.specs.declared.value.Value.{Value}
use Rattle.slot_rows.specs.indexed_rows.specs.Rows.{Table, is_same, put_in}
use Rattle.cache_store.specs.table_state.specs.Tables.{TableState}
use Rattle.cache_store.specs.instances.specs.declared.tree.Tree.{Tree}
use Rattle.cache_store.specs.instances.specs.Views.{kept_at, root_rows}
use Rattle.group_store.specs.Keeping.{KeepsShown}
use Rattle.group_store.specs.Stores.{Kept}

-- the hidden root rows with one more, where there is one and its key has none among them
abbrev pub hidden_with : Option (List Value) → List Value → Table → Table
hidden_with None key hidden = hidden
hidden_with (Some row) key hidden = put_in hidden key row

-- the hidden rows are the root rows of the view of a state whose keys pass a test
abbrev pub AreHidden : TableState → Tree → (List Value → Bool) → Table → Type 0
AreHidden state tree q hidden = hidden ≡ retain_keys (root_rows state tree.root) q

-- a root that is hidden leaves what is shown, and its row is among the hidden ones
abbrev pub HidesOne : TableState → Tree → Type 0
HidesOne state tree =
    (p q : List Value → Bool) (root : List Value) (s : Kept) (hidden : Table) →
    KeepsShown state tree p s → AreHidden state tree q hidden →
    AreHidden state tree (λ k. q k || (p k && is_same k root))
    (hidden_with (get (kept_at s.tables 0) root) root hidden)
