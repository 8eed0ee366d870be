-- The root keys of a store into which an instance is put.
use Rattle.std.proofs.Common.{◌≡◌, ℕ, suc, Bool, true, false, cond, not, nat_eq, Some, None, List, [], ◌∷◌, ◌++◌, length, map, arith, refl, sym, ap, ◌∙◌}
use Rattle.std.proofs.lemmas.List.{append-nil}
use Rattle.std.proofs.lemmas.Bool.{eqb-true}
use Rattle.std.specs.FinMap as fm
use Rattle.row_types.specs.Order.{key_order}
use Rattle.row_types.proofs.OrderLaws.{key_exact, key_total}
use Rattle.indexed_rows.specs.Rows.{Table, is_same, key_of}
use Rattle.indexed_rows.proofs.EntryLaws.{same_values}
use Rattle.table_state.specs.Tables.{TableState}
use Rattle.instances.specs.declared.tree.Child.{Child}
use Rattle.instances.specs.declared.tree.Tree.{Tree}
use Rattle.instances.specs.Views.{child_rows, instance_of, kept_at, only, root_rows, with_children}
use Rattle.group_store.specs.Recent.{entered_last}
use Rattle.group_store.specs.Stores.{HasRootKeys, Kept, put_rows, put_store, put_tables}
use Rattle.cache_tier.specs.Groups.{with_keys}
use Rattle.dynamic_loads.proofs.RootRows.{Row, get_retained}

-- rows of other tables leave the keys

past_root : (p : ℕ) → nat_eq (suc p) 0 ≡ false
past_root p = by (nat_eq (suc p) 0) refl
  where
    by : (b : Bool) → nat_eq (suc p) 0 ≡ b → b ≡ false
    by true e = let is = eqb-true (suc p) 0 e in absurd (Prim.omega (arith, is))
    by false e = refl

others_keys : (p : ℕ) (rows : List Row) (s : Kept) → (put_rows (suc p) rows s).keys ≡ s.keys
others_keys p [] s = refl
others_keys p (row ∷ rows) s = others_keys p rows (put_store (suc p) row s) ∙ ap (λ (b : Bool). cond b (entered_last (kept_at s.tables 0) (key_of s.key row) s.keys) s.keys) (past_root p)

tables_keys : (p : ℕ) (tables : List (List Row)) (s : Kept) → (put_tables (suc p) tables s).keys ≡ s.keys
tables_keys p [] s = refl
tables_keys p (rows ∷ tables) s = tables_keys (suc p) tables (put_rows (suc p) rows s) ∙ others_keys p rows s

first_kept : (s : TableState) (children : List Child) (t : Table) (kept : List Table) → (rest : List Table) × (with_children s children (t ∷ kept) ≡ t ∷ rest)
first_kept s [] t kept = (kept, refl)
first_kept s (c ∷ children) t kept = first_kept s children t (kept ++ child_rows s (kept_at (t ∷ kept) c.parent) c ∷ [])

-- the row of one key alone

nothing : {A : Type 0} (xs : List A) → length xs ≡ 0 → xs ≡ []
nothing [] e = refl
nothing (x ∷ xs) e = absurd (Prim.omega (arith, e))

one_entry : (k row : Row) → fm.values (fm.insert (fm.empty {X = Row} {R = key_order}) k row) ≡ row ∷ []
one_entry k row =
    let none : fm.entries (fm.empty {X = Row} {R = key_order}) ≡ [] = nothing (fm.entries (fm.empty {X = Row} {R = key_order})) (sym (fm.len-entries (fm.empty {X = Row} {R = key_order})) ∙ fm.len-empty key_order Row) in
    ap (map (λ (e : Row × Row). e.1)) (fm.entries-insert key_total (fm.empty {X = Row} {R = key_order}) k row ∙ ap (fm.put key_order k row) none)

only_one : (R : Table) (k row : Row) → fm.get R k ≡ Some row → only k R ≡ fm.insert fm.empty k row
only_one R k row there = fm.same_map key_total key_exact (only k R) (fm.insert fm.empty k row) (λ q.
    get_retained R (λ other. is_same other k) q ∙ by q (is_same q k) refl ∙ sym (fm.get-insert key_total fm.empty k row q ∙ ap (cond (is_same q k) (Some row)) (fm.get-empty key_order q)))
  where
    by : (q : Row) (b : Bool) → is_same q k ≡ b → cond (is_same q k) (fm.get R q) None ≡ cond (is_same q k) (Some row) None
    by q true e = ap (λ c. cond c (fm.get R q) None) e ∙ ap (fm.get R) (same_values q k e) ∙ there ∙ sym (ap (λ c. cond c (Some row) None) e)
    by q false e = ap (λ c. cond c (fm.get R q) None) e ∙ sym (ap (λ c. cond c (Some row) None) e)

-- where the instance has its root row, its key comes behind the others
pub instance_keys : (s : TableState) (tree : Tree) (root row : Row) (store : Kept) → HasRootKeys store → fm.get (root_rows s tree.root) root ≡ Some row → key_of store.key row ≡ root
    → (put_tables 0 (map fm.values (instance_of s tree root)) store).keys ≡ with_keys (root ∷ []) store.keys
instance_keys s tree root row store keyed there key =
    let t : Table = only root (root_rows s tree.root) in
    let split = first_kept s tree.children t [] in
    ap (λ ts. (put_tables 0 (map fm.values ts) store).keys) split.1
    ∙ tables_keys 0 (map fm.values split.0) (put_rows 0 (fm.values t) store)
    ∙ ap (λ rows. (put_rows 0 rows store).keys) (ap fm.values (only_one (root_rows s tree.root) root row there) ∙ one_entry root row)
    ∙ ap (λ k. entered_last (kept_at store.tables 0) k store.keys) key
    ∙ ap (λ (b : Bool). cond b store.keys (store.keys ++ root ∷ [])) (sym (keyed.are root))
    ∙ by (Rattle.cache_tier.specs.Groups.is_key store.keys root)
  where
    by : (b : Bool) → cond b store.keys (store.keys ++ root ∷ []) ≡ store.keys ++ cond (not b) (root ∷ []) []
    by true = sym (append-nil store.keys)
    by false = refl
