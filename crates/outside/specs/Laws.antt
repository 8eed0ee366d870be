-- What follows from what the backing database tells.

use Rattle.std.specs.Prelude.{◌≡◌, ℕ, List, Some, Bool, true, false, slice_get}
use Rattle.std.specs.List.{list_any}
use Rattle.row_types.specs.declared.value.Value.{Value}
use Rattle.tier_base.specs.declared.number.Position.{Position}
use Rattle.indexed_rows.specs.Rows.{is_same}
use Rattle.table_state.specs.declared.footprint.RowKey.{RowKey}
use Rattle.table_state.specs.declared.history.Entry.{Entry}
use Rattle.table_state.specs.Histories.{state_at, state_of}
use Rattle.table_state.specs.Tables.{TableState}
use Rattle.instances.specs.declared.tree.Tree.{Tree}
use Rattle.instances.specs.Trees.{is_sound}
use Rattle.instances.specs.Views.{instance_of}
use Rattle.outside.specs.Changes.{TellsChanges}
use Rattle.outside.specs.declared.changes.Changes.{Changes}
use Rattle.outside.specs.declared.changes.Touched.{Touched}

-- the instance of this root key is among those that are told
abbrev pub is_told : List Touched → List Value → Bool
is_told touched root = list_any (λ t. is_same root t.instance.root) touched

-- An instance that isn't among those that are told of its tree has the rows that it had at the position.
abbrev pub UntouchedStays : Type 0
UntouchedStays =
    (history : List Entry) (since : Position) (trees : List Tree) (wants : List RowKey) (changes : Changes)
    (from to : TableState) (i : ℕ) (tree : Tree) (touched : List Touched) (root : List Value)
    → TellsChanges history since trees wants changes → state_at history since.0 ≡ Some from → state_of history ≡ Some to
    → slice_get trees i ≡ Some tree → is_sound from.schema tree ≡ true → slice_get changes.touched i ≡ Some touched
    → is_told touched root ≡ false → instance_of to tree root ≡ instance_of from tree root
