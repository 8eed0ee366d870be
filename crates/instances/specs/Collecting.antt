-- Rows that are put together one by one.

use Rattle.std.specs.Prelude.{◌≡◌, ◌⊎◌, ℕ, ◌<◌, List, Bool, true, ◌&&◌, Some, slice_get, if◌then◌else◌}
use Rattle.std.specs.FinMap.{contains_key, entries, get, insert, len}
use Rattle.expressions.specs.row_types.specs.declared.value.Value.{Value}
use Rattle.table_state.specs.indexed_rows.specs.Rows.{Table}
use Rattle.table_state.specs.Children.{refers_to}
use Rattle.table_state.specs.Tables.{TableState, table_at}
use Rattle.instances.specs.declared.tree.Child.{Child}
use Rattle.instances.specs.Views.{is_kept, selects}

-- with this row, where its key has none
abbrev pub added : Table → List Value → List Value → Table
added rows key row = if contains_key rows key then rows else insert rows key row

-- of the first n rows of the table those that pass the test
pub record Gathers (test : List Value → Bool) (table : Table) (n : ℕ) (out : Table) : Type 0 where
  pub sound : (key row : List Value) → get out key ≡ Some row → (get table key ≡ Some row) × (test row ≡ true)
  pub whole : (i : ℕ) → i < n → (key row : List Value) → slice_get (entries table) i ≡ Some (key, row) → test row ≡ true
      → contains_key out key ≡ true

-- the row refers to this parent, and the child's WHERE selects it
abbrev pub is_under : TableState → Child → List Value → List Value → Bool
is_under s child parent row = refers_to parent (slice_get s.schema child.table.0) row && selects child.filter row

-- of the first n rows of the table those that pass the test came to the old ones, and no others
pub record AddsFirst (n : ℕ) (test : List Value → Bool) (table old new : Table) : Type 0 where
  pub sound :
      (key row : List Value) → get new key ≡ Some row
      → (get old key ≡ Some row) ⊎ ((get table key ≡ Some row) × (test row ≡ true))
  pub kept : (key : List Value) → contains_key old key ≡ true → contains_key new key ≡ true
  pub whole :
      (i : ℕ) → i < n → (key row : List Value) → slice_get (entries table) i ≡ Some (key, row) → test row ≡ true
      → contains_key new key ≡ true

-- of all rows of the table
abbrev pub Adds : (List Value → Bool) → Table → Table → Table → Type 0
Adds test table old new = AddsFirst (len table) test table old new

-- rows of a child table that are kept, and of those under the first n parents all
pub record Follows (s : TableState) (child : Child) (parents : Table) (n : ℕ) (out : Table) : Type 0 where
  pub sound :
      (key row : List Value) → get out key ≡ Some row
      → (get (table_at s child.table) key ≡ Some row) × (is_kept s parents child row ≡ true)
  pub whole :
      (i : ℕ) → i < n → (parent other : List Value) → slice_get (entries parents) i ≡ Some (parent, other)
      → (key row : List Value) → get (table_at s child.table) key ≡ Some row → is_under s child parent row ≡ true
      → contains_key out key ≡ true
