-- A tree without WHERE covers its tables whole. (TimesTen SQL Reference, CREATE TABLE: a foreign key names a row.)
use Rattle.std.specs.Prelude.{◌≡◌, List, [], ◌∷◌, ◌++◌, Some, None, true, map, slice_get}
use Rattle.std.specs.FinMap.{get}
use Rattle.instances.specs.row_types.specs.declared.value.Value.{Value}
use Rattle.instances.specs.indexed_rows.specs.Rows.{Table}
use Rattle.instances.specs.table_state.specs.Tables.{TableState, table_at}
use Rattle.instances.specs.declared.tree.Child.{Child}
use Rattle.instances.specs.declared.tree.Tree.{Tree}
use Rattle.instances.specs.Views.{kept_at, refers_to_one, view_of}

-- of these children, behind the tables before them, none has a WHERE, and each row refers to one of its parent's table
abbrev pub ChildrenCoverAll : TableState → List Table → List Child → Type 0
ChildrenCoverAll s before [] = Unit {0}
ChildrenCoverAll s before (c ∷ children) =
    (c.filter ≡ None)
    × ((key row : List Value) → get (table_at s c.table) key ≡ Some row
    → refers_to_one (kept_at before c.parent) (slice_get s.schema c.table.0) row ≡ true)
    × ChildrenCoverAll s (before ++ table_at s c.table ∷ []) children

-- no table of the tree has a WHERE, and each row of a child refers to one of its parent's table
abbrev pub CoversAll : TableState → Tree → Type 0
CoversAll s tree = (tree.root.filter ≡ None) × ChildrenCoverAll s (table_at s tree.root.table ∷ []) tree.children

-- so the view is the tables
abbrev pub CoversTables : TableState → Tree → Type 0
CoversTables s tree = CoversAll s tree
    → view_of s tree ≡ table_at s tree.root.table ∷ map (λ c. table_at s c.table) tree.children
