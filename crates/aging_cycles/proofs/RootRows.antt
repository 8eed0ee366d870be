-- Root rows that pass, instances that leave a store, and the keys of both.
use Rattle.std.proofs.Common.{◌≡◌, ◌<◌, ◌≤◌, ◌+◌, ◌-◌, ℕ, zero, suc, ◌⊎◌, inl, inr, Bool, true, false, not, cond, ◌&&◌, ◌||◌, Option, Some, None, is_some, List, [], ◌∷◌, ◌++◌, filter, length, map, slice_get, arith, refl, sym, ap, ◌∙◌}
use Rattle.std.specs.Option.{option_map}
use Rattle.std.specs.FinMap as fm
use Rattle.row_types.specs.declared.value.Value.{Value}
use Rattle.row_types.specs.Order.{key_order}
use Rattle.row_types.proofs.OrderLaws.{key_exact, key_total}
use Rattle.tier_base.specs.declared.number.TableId.{TableId}
use Rattle.indexed_rows.specs.Rows.{Table, is_same, key_of}
use Rattle.indexed_rows.proofs.EntryLaws.{same_values}
use Rattle.table_state.specs.Tables.{TableState, table_at}
use Rattle.instances.specs.declared.tree.Child.{Child}
use Rattle.instances.specs.declared.tree.Tree.{Tree}
use Rattle.instances.specs.Trees.{table_of}
use Rattle.instances.specs.Views.{child_rows, kept_at, passes, refers_to_one, root_rows, rows_where, selects, with_children}
use Rattle.instances.proofs.Gathering.{entry_found, get_where}
use Rattle.cache_store.specs.Shown.{shown_of}
use Rattle.group_store.specs.Keeping.{KeepsOthers, KeepsShown}
use Rattle.group_store.specs.Stores.{Kept, cut_store}
use Rattle.group_store.specs.Trees.{keep}
use Rattle.cache_tier.specs.Groups.{is_key}
use Rattle.cache_tier.proofs.KeyListLaws.{key_in_map}
use Rattle.cache_tier.proofs.ShownTrees.{front_kept}
use Rattle.stored_tier.proofs.GatherLaws.{entries_kept}
use Rattle.aging_cycles.specs.Running.{cut_all}

abbrev Row : Type 0
Row = List Value

abbrev Test : Type 0
Test = Row → Bool

-- rows that pass, by their keys

pub get_retained : (R : Table) (f : Test) (k : Row) → fm.get (fm.retain_keys R f) k ≡ cond (f k) (fm.get R k) None
get_retained R f k = fm.get-retain_keys R f k (λ x tie. ap f (sym (key_exact k x tie)))

none_either : (a b : Bool) → cond a (let o : Option Row = None in o) None ≡ cond b None None
none_either true true = refl
none_either true false = refl
none_either false true = refl
none_either false false = refl

pub retain_alike : (R : Table) (f h : Test) → ((k r : Row) → fm.get R k ≡ Some r → f k ≡ h k) → fm.retain_keys R f ≡ fm.retain_keys R h
retain_alike R f h same = fm.same_map key_total key_exact (fm.retain_keys R f) (fm.retain_keys R h) (λ k. get_retained R f k ∙ by k (fm.get R k) refl ∙ sym (get_retained R h k))
  where
    by : (k : Row) (o : Option Row) → fm.get R k ≡ o → cond (f k) (fm.get R k) None ≡ cond (h k) (fm.get R k) None
    by k None e = ap (λ (o : Option Row). cond (f k) o None) e ∙ none_either (f k) (h k) ∙ sym (ap (λ (o : Option Row). cond (h k) o None) e)
    by k (Some r) e = ap (λ b. cond b (fm.get R k) None) (same k r e)

-- where there is no WHERE each root row is one
pub plain_roots : (s : TableState) (tree : Tree) → tree.root.filter ≡ None → root_rows s tree.root ≡ table_at s tree.root.table
plain_roots s tree plain = fm.same_map key_total key_exact (root_rows s tree.root) (table_at s tree.root.table) (λ k.
    get_where (selects tree.root.filter) (table_at s tree.root.table) k
    ∙ ap (λ f. cond (passes (selects f) (fm.get (table_at s tree.root.table) k)) (fm.get (table_at s tree.root.table) k) None) plain
    ∙ of (fm.get (table_at s tree.root.table) k))
  where
    of : (o : Option Row) → cond (passes (selects None) o) o None ≡ o
    of None = refl
    of (Some r) = refl

-- the roots of what is shown
pub root_shown : (s : TableState) (tree : Tree) (f : Test) (k : Row) → fm.get (kept_at (shown_of s tree f) 0) k ≡ cond (f k) (fm.get (root_rows s tree.root) k) None
root_shown s tree f k =
    ap (λ (m : Table). fm.get m k) (front_kept s tree.children (fm.retain_keys (root_rows s tree.root) f ∷ []) 0 (omega arith))
    ∙ get_retained (root_rows s tree.root) f k

-- lists of tables

pub same_kept : (xs ys : List Table) → length xs ≡ length ys → ((i : ℕ) → i < length xs → kept_at xs i ≡ kept_at ys i) → xs ≡ ys
same_kept [] [] e same = refl
same_kept [] (y ∷ ys) e same = absurd (omega (arith, e))
same_kept (x ∷ xs) [] e same = absurd (omega (arith, e))
same_kept (x ∷ xs) (y ∷ ys) e same =
    let first : x ≡ y = same 0 (omega arith) in
    let rest : xs ≡ ys = same_kept xs ys (omega (arith, e)) (λ i lt. same (suc i) (omega (arith, lt))) in
    λ i. first i ∷ rest i

-- the table at a place of a tree
pub table_there : (tree : Tree) (i : ℕ) → i < suc (length tree.children) → (u : TableId) × (table_of tree i ≡ Some u)
table_there tree zero lt = (tree.root.table, refl)
table_there tree (suc i) lt = by (slice_get tree.children i) refl
  where
    none_past : (cs : List Child) (j : ℕ) → j < length cs → slice_get cs j ≡ None → ⊥
    none_past [] j lt e = omega (arith, lt)
    none_past (c ∷ cs) zero lt e = cc
    none_past (c ∷ cs) (suc j) lt e = none_past cs j (omega (arith, lt)) e

    by : (o : Option Child) → slice_get tree.children i ≡ o → (u : TableId) × (table_of tree (suc i) ≡ Some u)
    by None e = absurd (none_past tree.children i (omega (arith, lt)) e)
    by (Some c) e = (c.table, ap (option_map (λ (d : Child). d.table)) e)

-- no tables have no rows
pub nothing_kept : (p : ℕ) → kept_at [] p ≡ fm.empty
nothing_kept zero = refl
nothing_kept (suc p) = refl

abbrev no_rows : Table
no_rows = fm.empty

none_retained : (f : Test) → fm.retain_keys no_rows f ≡ no_rows
none_retained f = fm.same_map key_total key_exact (fm.retain_keys no_rows f) no_rows (λ k. get_retained no_rows f k ∙ ap (λ (o : Option Row). cond (f k) o None) (fm.get-empty key_order k) ∙ by (f k) ∙ sym (fm.get-empty key_order k))
  where
    by : (b : Bool) → ◌≡◌ {A = Option Row} (cond b None None) None
    by true = refl
    by false = refl

-- of each table the rows that pass
pub kept_through : (test : ℕ → Test) (ts : List Table) (p : ℕ) → kept_at (keep test ts) p ≡ fm.retain_keys (kept_at ts p) (test p)
kept_through test [] p = nothing_kept p ∙ sym (ap (λ m. fm.retain_keys m (test p)) (nothing_kept p) ∙ none_retained (test p))
kept_through test (t ∷ ts) zero = refl
kept_through test (t ∷ ts) (suc p) = kept_through (λ place. test (suc place)) ts p

-- what has no rows has none behind instances that leave
pub cut_nothing : (ks : List Row) (s : Kept) → ((p : ℕ) → kept_at s.tables p ≡ fm.empty) → (p : ℕ) → kept_at (cut_all ks s).tables p ≡ fm.empty
cut_nothing [] s none p = none p
cut_nothing (k ∷ ks) s none p = cut_nothing ks (cut_store 0 k s) (λ q.
    kept_through (λ place key. not (Rattle.group_store.specs.Trees.leads s.layers s.tables 0 k (length s.layers) place key)) s.tables q
    ∙ ap (λ m. fm.retain_keys m (λ key. not (Rattle.group_store.specs.Trees.leads s.layers s.tables 0 k (length s.layers) q key))) (none q)
    ∙ none_retained (λ key. not (Rattle.group_store.specs.Trees.leads s.layers s.tables 0 k (length s.layers) q key))) p

-- one root after another

abbrev pub after : Test → List Row → Test
after p [] = p
after p (r ∷ ks) = after (λ k. p k && not (is_same k r)) ks

and_true : (a : Bool) → a ≡ (a && true)
and_true true = refl
and_true false = refl

both_not : (p s r : Bool) → ((p && not s) && not r) ≡ (p && not (s || r))
both_not true true r = refl
both_not true false r = refl
both_not false s r = refl

pub after_is : (p : Test) (ks : List Row) (k : Row) → after p ks k ≡ (p k && not (is_key ks k))
after_is p [] k = and_true (p k)
after_is p (r ∷ ks) k = after_is (λ q. p q && not (is_same q r)) ks k ∙ both_not (p k) (is_same k r) (is_key ks k)

-- what a store loses with an instance
abbrev pub Drops : Type 0
Drops = (state : TableState) (tree : Tree) → KeepsOthers state tree

pub cut_kept : Drops → (state : TableState) (tree : Tree) (ks : List Row) (p : Test) (s : Kept) → KeepsShown state tree p s → KeepsShown state tree (after p ks) (cut_all ks s)
cut_kept drops state tree [] p s keeps = keeps
cut_kept drops state tree (r ∷ ks) p s keeps = cut_kept drops state tree ks (λ k. p k && not (is_same k r)) (cut_store 0 r s) (drops state tree p r s keeps)

-- a state with other definitions of tables without rows

pub child_alike : (a b : TableState) (parents : Table) (c : Child) → table_at a c.table ≡ table_at b c.table → (slice_get a.schema c.table.0 ≡ slice_get b.schema c.table.0) ⊎ (table_at b c.table ≡ fm.empty) → child_rows a parents c ≡ child_rows b parents c
child_alike a b parents c rows (inl look) = λ i. rows_where (λ row. selects c.filter row && refers_to_one parents (look i) row) (rows i)
child_alike a b parents c rows (inr none) =
    ap (rows_where (λ row. selects c.filter row && refers_to_one parents (slice_get a.schema c.table.0) row)) (rows ∙ none) ∙ none_retained _
    ∙ sym (ap (rows_where (λ row. selects c.filter row && refers_to_one parents (slice_get b.schema c.table.0) row)) none ∙ none_retained _)

pub children_alike : (a b : TableState) (children : List Child) (kept : List Table) → ((i : ℕ) (c : Child) → slice_get children i ≡ Some c → table_at a c.table ≡ table_at b c.table)
    → ((i : ℕ) (c : Child) → slice_get children i ≡ Some c → (slice_get a.schema c.table.0 ≡ slice_get b.schema c.table.0) ⊎ (table_at b c.table ≡ fm.empty))
    → with_children a children kept ≡ with_children b children kept
children_alike a b [] kept tables look = refl
children_alike a b (c ∷ children) kept tables look =
    ap (λ (m : Table). with_children a children (kept ++ m ∷ [])) (child_alike a b (kept_at kept c.parent) c (tables 0 c refl) (look 0 c refl))
    ∙ children_alike a b children (kept ++ child_rows b (kept_at kept c.parent) c ∷ []) (λ i d at. tables (suc i) d at) (λ i d at. look (suc i) d at)

-- keys of rows that pass a test of key and row

filter_alike : {A : Type 0} (p q : A → Bool) (xs : List A) → ((i : ℕ) (x : A) → slice_get xs i ≡ Some x → p x ≡ q x) → filter p xs ≡ filter q xs
filter_alike p q [] same = refl
filter_alike p q (x ∷ xs) same =
    ap (λ b. cond b (x ∷ filter p xs) (filter p xs)) (same 0 x refl)
    ∙ ap (λ ys. cond (q x) (x ∷ ys) ys) (filter_alike p q xs (λ i y at. same (suc i) y at))

abbrev pub picked : (Row → Row → Bool) → Table → Table
picked test table = fm.retain_keys table (λ key. passes (test key) (fm.get table key))

entries_picked : (test : Row → Row → Bool) (table : Table) → fm.entries (picked test table) ≡ filter (λ (e : Row × Row). test e.0 e.1) (fm.entries table)
entries_picked test table =
    entries_kept table (λ key. passes (test key) (fm.get table key))
    ∙ filter_alike (λ (e : Row × Row). passes (test e.0) (fm.get table e.0)) (λ e. test e.0 e.1) (fm.entries table) (λ i e at. ap (passes (test e.0)) (entry_found table i e at))

keys_listed : (key : Row → Row) (m : Row → Row → Bool) (es : List (Row × Row)) → ((i : ℕ) (e : Row × Row) → slice_get es i ≡ Some e → key e.1 ≡ e.0)
    → map key (filter (λ row. m (key row) row) (map (λ (e : Row × Row). e.1) es)) ≡ map (λ (e : Row × Row). e.0) (filter (λ (e : Row × Row). m e.0 e.1) es)
keys_listed key m [] keyed = refl
keys_listed key m (e ∷ es) keyed =
    ap (λ k. map key (cond (m k e.1) (e.1 ∷ filter (λ row. m (key row) row) (map (λ (x : Row × Row). x.1) es)) (filter (λ row. m (key row) row) (map (λ (x : Row × Row). x.1) es)))) (keyed 0 e refl)
    ∙ by (m e.0 e.1) (keys_listed key m es (λ i x at. keyed (suc i) x at))
  where
    by : (b : Bool) → map key (filter (λ row. m (key row) row) (map (λ (x : Row × Row). x.1) es)) ≡ map (λ (x : Row × Row). x.0) (filter (λ (x : Row × Row). m x.0 x.1) es)
        → map key (cond b (e.1 ∷ filter (λ row. m (key row) row) (map (λ (x : Row × Row). x.1) es)) (filter (λ row. m (key row) row) (map (λ (x : Row × Row). x.1) es))) ≡ map (λ (x : Row × Row). x.0) (cond b (e ∷ filter (λ (x : Row × Row). m x.0 x.1) es) (filter (λ (x : Row × Row). m x.0 x.1) es))
    by true rest = λ i. keyed 0 e refl i ∷ rest i
    by false rest = rest

-- which keys these are, where rows stand under their values at the columns
pub keys_picked : (columns : List ℕ) (m : Row → Row → Bool) (S : Table) → ((k r : Row) → fm.get S k ≡ Some r → key_of columns r ≡ k) → (k : Row)
    → is_key (map (key_of columns) (filter (λ row. m (key_of columns row) row) (fm.values S))) k ≡ passes (m k) (fm.get S k)
keys_picked columns m S keyed k =
    ap (λ ks. is_key ks k) (keys_listed (key_of columns) m (fm.entries S) (λ i e at. keyed e.0 e.1 (entry_found S i e at)) ∙ ap (map (λ (e : Row × Row). e.0)) (sym (entries_picked m S)))
    ∙ key_in_map (picked m S) k
    ∙ ap is_some (get_retained S (λ key. passes (m key) (fm.get S key)) k)
    ∙ by (fm.get S k)
  where
    by : (o : Option Row) → is_some (cond (passes (m k) o) o None) ≡ passes (m k) o
    by None = refl
    by (Some row) = of_row (m k row)
      where
        of_row : (b : Bool) → is_some (cond b (Some row) None) ≡ b
        of_row true = refl
        of_row false = refl

-- how many rows are left

shorter : {A : Type 0} (p : A → Bool) (xs : List A) → length (filter p xs) ≤ length xs
shorter p [] = omega arith
shorter p (x ∷ xs) = by (p x) (shorter p xs)
  where
    by : (b : Bool) → length (filter p xs) ≤ length xs → length (cond b (x ∷ filter p xs) (filter p xs)) ≤ suc (length xs)
    by true le = omega (arith, le)
    by false le = omega (arith, le)

pub fewer_rows : (S : Table) (f : Test) → fm.len (fm.retain_keys S f) ≤ fm.len S
fewer_rows S f =
    let all = fm.len-entries S in
    let left = fm.len-entries (fm.retain_keys S f) ∙ ap length (entries_kept S f) in
    let le = shorter (λ (e : Row × Row). f e.0) (fm.entries S) in
    omega (arith, all, left, le)

-- without a row that was there
pub one_fewer : (S : Table) (f : Test) (k : Row) → fm.contains_key S k ≡ true → f k ≡ false → fm.len (fm.retain_keys S f) + 1 ≤ fm.len S
one_fewer S f k has out =
    let less : fm.len (fm.remove S k) ≡ cond true (fm.len S - 1) (fm.len S) = fm.len-remove key_total S k ∙ ap (λ b. cond b (fm.len S - 1) (fm.len S)) has in
    let le = fewer_rows (fm.remove S k) f in
    let same : fm.len (fm.retain_keys S f) ≡ fm.len (fm.retain_keys (fm.remove S k) f) = ap (λ (m : Table). fm.len m) (fm.same_map key_total key_exact (fm.retain_keys S f) (fm.retain_keys (fm.remove S k) f) each) in
    let some = some_rows in
    omega (arith, less, le, same, some)
  where
    some_rows : 0 < fm.len S
    some_rows = by (fm.len S) refl
      where
        by : (n : ℕ) → fm.len S ≡ n → 0 < n
        by zero e = let z : false ≡ true = sym (ap is_some (fm.get-empty key_order k)) ∙ ap (λ m. fm.contains_key m k) (sym (fm.empty_of_len S e)) ∙ has in cc
        by (suc n) e = omega arith

    -- the key that went fails anyway
    of : (q : Row) (tie : Bool) → is_same q k ≡ tie → (b : Bool) → f q ≡ b → cond b (fm.get S q) None ≡ cond b (cond tie None (fm.get S q)) None
    of q true same true e = let z : true ≡ false = sym e ∙ ap f (same_values q k same) ∙ out in cc
    of q true same false e = refl
    of q false same true e = refl
    of q false same false e = refl

    each : (q : Row) → fm.get (fm.retain_keys S f) q ≡ fm.get (fm.retain_keys (fm.remove S k) f) q
    each q =
        get_retained S f q ∙ of q (is_same q k) refl (f q) refl
        ∙ sym (get_retained (fm.remove S k) f q ∙ ap (λ (o : Option Row). cond (f q) o None) (fm.get-remove key_total S k q))
