-- An instance that becomes other rows.
use Rattle.std.proofs.Common.{◌≡◌, ℕ, suc, ◌+◌, ◌<◌, cond, true, List, [], ◌∷◌, length, remove, map, slice_get, Some, is_some, refl, sym, ap, subst, ◌∙◌, arith}
use Rattle.std.specs.FinMap as fm
use Rattle.slot_rows.specs.row_types.specs.declared.value.Value.{Value}
use Rattle.slot_rows.specs.tier_base.specs.declared.number.TableId.{TableId}
use Rattle.slot_rows.specs.indexed_rows.specs.Rows.{Table, key_of, put_in, put_over}
use Rattle.slot_rows.specs.indexed_rows.proofs.EntryLaws.{get_gone, insert_over}
use Rattle.cache_store.specs.instances.specs.Views.{kept_at}
use Rattle.cache_store.specs.Operating.{change_at}
use Rattle.group_store.specs.Recent.{entered_last}
use Rattle.group_store.specs.declared.tree_rows.ChildRows.{ChildRows}
use Rattle.group_store.specs.declared.tree_rows.TreeRows.{TreeRows}
use Rattle.group_store.specs.Joined.{IsBared, KeepsTree, LeavesChildren, layers_of, least_spare, places_at, tables_of}
use Rattle.group_store.specs.Stores.{IsInstanceUnder, Kept, SameButSpare, count_all, cut_store, put_rows, put_store, put_tables, renewed_store}
use Rattle.group_store.proofs.EnterLaws.{not_first}
use Rattle.group_store.proofs.StoreLaws.{same_both, same_tables}
use Rattle.group_store.proofs.TreeLaws.{cut_done}

abbrev Row : Type 0
Row = List Value

-- what the rows of a tree are as a store
abbrev pub store_of : TableId → TreeRows → Kept
store_of table t = record {
  table = table;
  key = t.roots.places;
  foreign = t.roots.foreign;
  layers = layers_of t;
  tables = tables_of t;
  keys = t.roots.keys;
  spare = least_spare t;
}

-- a row that left its place comes back there
put_back : (m : Table) (k row : Row) → fm.contains_key m k ≡ true → put_over m k row ≡ put_in (fm.remove m k) k row
put_back m k row has =
    ap (λ b. cond b (fm.insert m k row) m) has ∙ sym (insert_over m k row)
    ∙ sym (ap (λ b. cond b (fm.remove m k) (fm.insert (fm.remove m k) k row)) (let gone = get_gone m k in ap is_some gone))

-- the root's row becomes another, and what led to it is gone
pub renewed_root : (table : TableId) (old t new : TreeRows) (root row : Row) → LeavesChildren old t → IsBared old t 0 root
    → tables_of new ≡ change_at 0 (λ m. put_over m (key_of (places_at t 0) row) row) (tables_of t) → KeepsTree t new → new.roots.keys ≡ t.roots.keys
    → fm.contains_key old.roots.table root ≡ true → key_of old.roots.places row ≡ root
    → SameButSpare (renewed_store root ((row ∷ []) ∷ []) (store_of table old)) (store_of table new)
renewed_root table old t new root row left bared tables same keys has is =
    let places : t.roots.places ≡ old.roots.places = ap (λ r. r.places) left.roots in
    let here : key_of t.roots.places row ≡ root = ap (λ ps. key_of ps row) places ∙ is in
    let there : fm.contains_key t.roots.table root ≡ true = ap (λ r. fm.contains_key r.table root) left.roots ∙ has in
    let behind : List Table = map (λ (d : ChildRows). d.rows.table) t.children.items in
    record {
      table = refl;
      key = same.places ∙ places;
      foreign = same.foreign ∙ ap (λ r. r.foreign) left.roots;
      layers = same.layers ∙ left.layers;
      tables =
          tables ∙ ap (λ k. put_over t.roots.table k row ∷ behind) here
          ∙ ap (λ m. m ∷ behind) (put_back t.roots.table root row there)
          ∙ ap (λ k. put_in (fm.remove t.roots.table root) k row ∷ behind) (sym is)
          ∙ ap (change_at 0 (λ m. put_in m (key_of old.roots.places row) row)) (sym (cut_done (layers_of t) (tables_of t) 0 root (omega arith) bared.bare) ∙ bared.cut);
      keys = keys ∙ ap (λ r. r.keys) left.roots;
    }

-- what comes into child tables leaves the root keys
put_apart : (p : ℕ) (row : Row) (x : Kept) (k : List Row) → put_store (suc p) row (record x { keys = k }) ≡ record (put_store (suc p) row x) { keys = k }
put_apart p row x k =
    let apart = ap (λ b. cond b (entered_last (kept_at x.tables 0) (key_of x.key row) k) k) (not_first p) in
    λ i. record (put_store (suc p) row x) { keys = apart i }

rows_apart : (p : ℕ) (rows : List Row) (x : Kept) (k : List Row) → put_rows (suc p) rows (record x { keys = k }) ≡ record (put_rows (suc p) rows x) { keys = k }
rows_apart p [] x k = refl
rows_apart p (row ∷ rows) x k = ap (put_rows (suc p) rows) (put_apart p row x k) ∙ rows_apart p rows (put_store (suc p) row x) k

tables_apart : (p : ℕ) (tables : List (List Row)) (x : Kept) (k : List Row) → put_tables (suc p) tables (record x { keys = k }) ≡ record (put_tables (suc p) tables x) { keys = k }
tables_apart p [] x k = refl
tables_apart p (rows ∷ tables) x k = ap (put_tables (suc (suc p)) tables) (rows_apart p rows x k) ∙ tables_apart (suc p) tables (put_rows (suc p) rows x) k

-- the tables of an instance: the one row of the first, and the others
module _ (columns : List ℕ) (root : Row) (tables : List (List Row)) (under : IsInstanceUnder columns root tables) where
  pub split_first : tables ≡ (under.row ∷ []) ∷ remove tables 0
  split_first = by tables under.first
    where
      by : (ts : List (List Row)) → slice_get ts 0 ≡ Some (under.row ∷ []) → ts ≡ (under.row ∷ []) ∷ remove ts 0
      by [] e = cc
      by (x ∷ xs) e = let z : x ≡ under.row ∷ [] = cc in ap (λ y. y ∷ xs) z

  pub some_tables : 0 < length tables
  some_tables = let e = ap length split_first in omega (arith, e)

  pub count_first : count_all tables ≡ 1 + count_all (remove tables 0)
  count_first = ap count_all split_first

  pub length_first : length tables ≡ 1 + length (remove tables 0)
  length_first = let e = ap length split_first in omega (arith, e)

  -- behind the root's row the others come in
  pub renewed_all : (old now new : Kept) → SameButSpare (renewed_store root ((under.row ∷ []) ∷ []) old) now → SameButSpare (put_tables 1 (remove tables 0) now) new → SameButSpare (renewed_store root tables old) new
  renewed_all old now new first others =
      let rest = remove tables 0 in
      let x = put_store 0 under.row (cut_store 0 root old) in
      subst (λ ts. SameButSpare (renewed_store root ts old) new) (sym split_first)
      (subst (λ y. SameButSpare y new) (tables_apart 0 rest x old.keys)
      (same_both (put_tables 1 rest (record x { keys = old.keys })) (put_tables 1 rest now) new (same_tables 1 rest (record x { keys = old.keys }) now first) others))
