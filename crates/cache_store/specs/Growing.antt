-- What one operation makes of what is shown.
use Rattle.std.specs.Prelude.{◌≡◌, ◌≤◌, ℕ, suc, List, Some, Bool, true, false, ◌&&◌, nat_eq, slice_get, if◌then◌else◌}
use Rattle.std.specs.FinMap.{contains_key, get}
use Rattle.instances.specs.row_types.specs.declared.value.Value.{Value}
use Rattle.instances.specs.tier_base.specs.declared.number.TableId.{TableId}
use Rattle.instances.specs.indexed_rows.specs.Rows.{is_same}
use Rattle.instances.specs.table_state.specs.Tables.{TableState, table_at}
use Rattle.instances.specs.declared.tree.Child.{Child}
use Rattle.instances.specs.declared.tree.Tree.{Tree}
use Rattle.instances.specs.Roots.{root_at}
use Rattle.instances.specs.Views.{kept_at, view_of}
use Rattle.cache_store.specs.Shown.{has_root, shown_of}

-- this place and key are those of the row that comes
abbrev pub is_new : ℕ → List Value → ℕ → List Value → Bool
is_new at key place other = nat_eq at place && is_same other key

-- the second state has all rows of the first, and its view has one row more, at this place of the tree under this key
pub record GainsRow (s new : TableState) (tree : Tree) (at : ℕ) (key row : List Value) : Type 0 where
  pub schema : new.schema ≡ s.schema
  pub more : (t : TableId) (other found : List Value) → get (table_at s t) other ≡ Some found
      → get (table_at new t) other ≡ Some found
  pub view : (place : ℕ) (other : List Value)
      → get (kept_at (view_of new tree) place) other
      ≡ (if is_new at key place other then Some row else get (kept_at (view_of s tree) place) other)

-- roots that the first state's rows are reached from pass the one test where they pass the other
abbrev pub Agree : TableState → Tree → (List Value → Bool) → (List Value → Bool) → Type 0
Agree s tree p q = (place : ℕ) (other root found : List Value) → get (kept_at (view_of s tree) place) other ≡ Some found
    → root_at s tree place other ≡ Some root → q root ≡ p root

-- so what is shown has that row more
abbrev pub ShowsMore : TableState → TableState → Tree → Type 0
ShowsMore s new tree =
    (at : ℕ) (key row : List Value) → GainsRow s new tree at key row → (p q : List Value → Bool) → Agree s tree p q
    → has_root q (root_at new tree at key) ≡ true → (place : ℕ) (other : List Value) →
    get (kept_at (shown_of new tree q) place) other
    ≡ (if is_new at key place other then Some row else get (kept_at (shown_of s tree p) place) other)

-- the second state has another row at this place of the tree under this key, which both views have, and else the same
-- rows
pub record Moves (s new : TableState) (tree : Tree) (at : ℕ) (key row : List Value) : Type 0 where
  pub schema : new.schema ≡ s.schema
  pub earlier : (place : ℕ) (child : Child) → slice_get tree.children place ≡ Some child → child.parent ≤ place
  pub roots : (other : List Value)
      → contains_key (table_at new tree.root.table) other ≡ contains_key (table_at s tree.root.table) other
  pub same : (place : ℕ) (child : Child) → slice_get tree.children place ≡ Some child → (other : List Value)
      → is_new at key (suc place) other ≡ false
      → get (table_at new child.table) other ≡ get (table_at s child.table) other
  pub view : (place : ℕ) (other : List Value)
      → get (kept_at (view_of new tree) place) other
      ≡ (if is_new at key place other then Some row else get (kept_at (view_of s tree) place) other)
  pub old : List Value
  pub was : get (kept_at (view_of s tree) at) key ≡ Some old

-- where the row is shown before and behind, also under another root, that is all that changes of what is shown
abbrev pub ShowsMoved : TableState → TableState → Tree → Type 0
ShowsMoved s new tree =
    (at : ℕ) (key row : List Value) → Moves s new tree at key row → (p : List Value → Bool)
    → has_root p (root_at s tree at key) ≡ true → has_root p (root_at new tree at key) ≡ true
    → (place : ℕ) (other : List Value) →
    get (kept_at (shown_of new tree p) place) other
    ≡ (if is_new at key place other then Some row else get (kept_at (shown_of s tree p) place) other)
