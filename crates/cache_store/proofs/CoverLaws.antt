-- The view of a tree without WHERE.
use Rattle.std.proofs.Common.{◌≡◌, Bool, true, ◌&&◌, cond, Option, Some, None, List, [], ◌∷◌, ◌++◌, map, slice_get, refl, sym, ap, ◌∙◌, append_assoc, append-nil}
use Rattle.std.specs.FinMap.{get, same_map}
use Rattle.instances.specs.row_types.specs.declared.value.Value.{Value}
use Rattle.instances.specs.row_types.proofs.OrderLaws.{key_total, key_exact}
use Rattle.instances.specs.indexed_rows.specs.Rows.{Table}
use Rattle.instances.specs.table_state.specs.Tables.{TableState, table_at}
use Rattle.instances.specs.declared.tree.Child.{Child}
use Rattle.instances.specs.declared.tree.Tree.{Tree}
use Rattle.instances.specs.Views.{child_rows, is_kept, kept_at, passes, refers_to_one, root_rows, rows_where, selects, with_children}
use Rattle.instances.proofs.Gathering.{get_where}
use Rattle.cache_store.specs.Covering.{ChildrenCoverAll, CoversTables}

abbrev Row : Type 0
Row = List Value

pub all_pass : (test : Row → Bool) (table : Table) → ((key row : Row) → get table key ≡ Some row → test row ≡ true) → rows_where test table ≡ table
all_pass test table good = same_map key_total key_exact (rows_where test table) table (λ q. get_where test table q ∙ by q (get table q) refl)
  where
    by : (q : Row) (o : Option Row) → get table q ≡ o → cond (passes test o) o None ≡ o
    by q None is = refl
    by q (Some row) is = ap (λ b. cond b (Some row) None) (good q row is)

all_whole : (s : TableState) (children : List Child) (before : List Table) → ChildrenCoverAll s before children → with_children s children before ≡ before ++ map (λ c. table_at s c.table) children
all_whole s [] before w = sym (append-nil before)
all_whole s (c ∷ children) before w =
    let kept : child_rows s (kept_at before c.parent) c ≡ table_at s c.table = all_pass (is_kept s (kept_at before c.parent) c) (table_at s c.table) (λ key row is. ap (λ f. selects f row && refers_to_one (kept_at before c.parent) (slice_get s.schema c.table.0) row) w.0 ∙ w.1 key row is) in
    ap (λ t. with_children s children (before ++ t ∷ [])) kept ∙ all_whole s children (before ++ table_at s c.table ∷ []) w.2 ∙ append_assoc before (table_at s c.table ∷ []) (map (λ c. table_at s c.table) children)

pub covers_tables : (s : TableState) (tree : Tree) → CoversTables s tree
covers_tables s tree w =
    let root : root_rows s tree.root ≡ table_at s tree.root.table = all_pass (selects tree.root.filter) (table_at s tree.root.table) (λ key row is. ap (λ f. selects f row) w.0) in
    ap (λ t. with_children s tree.children (t ∷ [])) root ∙ all_whole s tree.children (table_at s tree.root.table ∷ []) w.1
