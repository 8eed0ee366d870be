-- An insert, and what it makes of what is shown.
use Rattle.std.specs.Prelude.{◌≡◌, ◌≤◌, ℕ, zero, suc, List, [], ◌∷◌, Some, Bool, true, slice_get}
use Rattle.std.specs.FinMap.{remove}
use Rattle.instances.specs.row_types.specs.declared.value.Value.{Value}
use Rattle.instances.specs.tier_base.specs.declared.number.TableId.{TableId}
use Rattle.instances.specs.table_defs.specs.declared.definition.TableDef.{TableDef}
use Rattle.instances.specs.indexed_rows.specs.Rows.{Table, key_of, put_in, put_over}
use Rattle.instances.specs.table_state.specs.Tables.{TableState}
use Rattle.instances.specs.table_state.specs.declared.operation.Op.{Op}
use Rattle.instances.specs.table_state.specs.declared.operation.Op.TheVariants.{Delete, Insert, Update}
use Rattle.instances.specs.table_state.specs.Operations.{applied}
use Rattle.instances.specs.declared.tree.Child.{Child}
use Rattle.instances.specs.declared.tree.Tree.{Tree}
use Rattle.instances.specs.Trees.{table_of}
use Rattle.instances.specs.Roots.{root_at}
use Rattle.cache_store.specs.Shown.{has_root, shown_of}
use Rattle.cache_store.specs.Covering.{CoversAll}
use Rattle.cache_store.specs.Growing.{Agree}

-- the rows of one place change
abbrev pub change_at : ℕ → (Table → Table) → List Table → List Table
change_at at f [] = []
change_at zero f (t ∷ tables) = f t ∷ tables
change_at (suc at) f (t ∷ tables) = t ∷ change_at at f tables

-- the tree has the table at this place, and at no other
pub record StandsAt (tree : Tree) (t : TableId) (at : ℕ) : Type 0 where
  pub there : table_of tree at ≡ Some t
  pub alone : (place : ℕ) (other : TableId) → table_of tree place ≡ Some other → other.0 ≡ t.0 → place ≡ at

-- an operation on the table at a place of the tree applies, and the tree covers its tables before and behind it
pub record AppliesAt (op : Op) (s new : TableState) (tree : Tree) (t : TableId) (def : TableDef) (at : ℕ) : Type 0 where
  pub applies : applied op s ≡ Some new
  pub defined : slice_get s.schema t.0 ≡ Some def
  pub stands : StandsAt tree t at
  pub before : CoversAll s tree
  pub after : CoversAll new tree

-- the row of a key at a place is reached from a root that passes
abbrev pub IsChosen : TableState → Tree → (List Value → Bool) → ℕ → List Value → Type 0
IsChosen s tree p at key = has_root p (root_at s tree at key) ≡ true

-- an insert that applies puts its row into what is shown, where its root is shown then
abbrev pub ShowsInsert : TableState → TableState → Tree → Type 0
ShowsInsert s new tree =
    (t : TableId) (def : TableDef) (row : List Value) (at : ℕ) (p q : List Value → Bool) →
    AppliesAt (Insert t row) s new tree t def at → Agree s tree p q
    → IsChosen new tree q at (key_of def.primary_key row) →
    shown_of new tree q ≡ change_at at (λ table. put_in table (key_of def.primary_key row) row) (shown_of s tree p)

-- a delete that applies takes its row out of what is shown, where its root was shown
abbrev pub ShowsDelete : TableState → TableState → Tree → Type 0
ShowsDelete s new tree =
    (t : TableId) (def : TableDef) (row : List Value) (at : ℕ) (p q : List Value → Bool) →
    AppliesAt (Delete t row) s new tree t def at → Agree new tree q p
    → IsChosen s tree p at (key_of def.primary_key row) →
    shown_of new tree q ≡ change_at at (λ table. remove table (key_of def.primary_key row)) (shown_of s tree p)

-- each child stands behind its parent
abbrev pub ParentsFirst : Tree → Type 0
ParentsFirst tree = (place : ℕ) (child : Child) → slice_get tree.children place ≡ Some child → child.parent ≤ place

-- an update that applies puts its row over the one shown, where the root of both is shown
abbrev pub ShowsUpdate : TableState → TableState → Tree → Type 0
ShowsUpdate s new tree =
    (t : TableId) (def : TableDef) (old row : List Value) (at : ℕ) (p : List Value → Bool) →
    AppliesAt (Update t old row) s new tree t def at → ParentsFirst tree →
    IsChosen s tree p at (key_of def.primary_key row) → IsChosen new tree p at (key_of def.primary_key row) →
    shown_of new tree p ≡ change_at at (λ table. put_over table (key_of def.primary_key row) row) (shown_of s tree p)
