-- The rows of a store into which rows are put.
use Rattle.std.proofs.Common.{◌≡◌, ◌⊎◌, ℕ, zero, suc, ◌+◌, Bool, true, false, cond, Option, Some, None, List, [], ◌∷◌, slice_get, inl, inr, arith, refl, sym, ap, ◌∙◌}
use Rattle.std.specs.Option.{option_or}
use Rattle.std.specs.FinMap as fm
use Rattle.indexed_rows.specs.Rows.{Table, is_same, key_of, put_in}
use Rattle.indexed_rows.proofs.EntryLaws.{same_values}
use Rattle.instances.specs.Views.{kept_at}
use Rattle.cache_store.specs.Operating.{change_at}
use Rattle.cache_store.proofs.JoinLaws.{get_put_in}
use Rattle.group_store.specs.Stores.{Kept, put_rows, put_store, put_tables}
use Rattle.group_store.specs.Trees.{key_at}
use Rattle.stored_tier.proofs.PutLaws.{form_tables}
use Rattle.row_types.specs.declared.value.Value.{Value}

abbrev Row : Type 0
Row = List Value

-- a row that is put into a table
entry_in : (t : Table) (k r key row : Row) → fm.get (put_in t k r) key ≡ Some row → (fm.get t key ≡ Some row) ⊎ ((k ≡ key) × (r ≡ row))
entry_in t k r key row e = by (fm.get t key) refl (sym (get_put_in t k r key) ∙ e)
  where
    new : (b : Bool) → is_same key k ≡ b → cond b (Some r) None ≡ Some row → (k ≡ key) × (r ≡ row)
    new true same e = (sym (same_values key k same), Prim.cc)
    new false same e = Prim.cc

    by : (o : Option Row) → fm.get t key ≡ o → option_or o (cond (is_same key k) (Some r) None) ≡ Some row → (o ≡ Some row) ⊎ ((k ≡ key) × (r ≡ row))
    by None is e = inr (new (is_same key k) refl e)
    by (Some x) is e = inl e

changed_entry : (ts : List Table) (n q : ℕ) (k r key row : Row) → fm.get (kept_at (change_at n (λ t. put_in t k r) ts) q) key ≡ Some row → (fm.get (kept_at ts q) key ≡ Some row) ⊎ ((q ≡ n) × (k ≡ key) × (r ≡ row))
changed_entry [] n q k r key row e = inl e
changed_entry (t ∷ ts) zero zero k r key row e = elim (entry_in t k r key row e) [
  | inl old ↦ inl old
  | inr new ↦ inr (refl, new.0, new.1)
]
changed_entry (t ∷ ts) zero (suc q) k r key row e = inl e
changed_entry (t ∷ ts) (suc n) zero k r key row e = inl e
changed_entry (t ∷ ts) (suc n) (suc q) k r key row e = elim (changed_entry ts n q k r key row e) [
  | inl old ↦ inl old
  | inr new ↦ inr (ap suc new.0, new.1, new.2)
]

-- rows that are put into one table

rows_entry : (n : ℕ) (rows : List Row) (s : Kept) (q : ℕ) (key row : Row) → fm.get (kept_at (put_rows n rows s).tables q) key ≡ Some row
    → (fm.get (kept_at s.tables q) key ≡ Some row) ⊎ ((q ≡ n) × (key_of (key_at s.key s.layers n) row ≡ key) × (j : ℕ) × (slice_get rows j ≡ Some row))
rows_entry n [] s q key row e = inl e
rows_entry n (r ∷ rows) s q key row e = elim (rows_entry n rows (put_store n r s) q key row e) [
  | inl old ↦ elim (changed_entry s.tables n q (key_of (key_at s.key s.layers n) r) r key row old) [
    | inl before ↦ inl before
    | inr new ↦ inr (new.0, ap (key_of (key_at s.key s.layers n)) (sym new.2) ∙ new.1, 0, ap Some new.2)
  ]
  | inr later ↦ inr (later.0, later.1, suc later.2, later.3)
]

-- rows that are put in table by table

pub record IsEntered (tables : List (List Row)) (n : ℕ) (s : Kept) (q : ℕ) (key row : Row) : Type 0 where
  pub key_is : key_of (key_at s.key s.layers q) row ≡ key
  pub i : ℕ
  pub at : n + i ≡ q
  pub rows : List Row
  pub there : slice_get tables i ≡ Some rows
  pub j : ℕ
  pub is : slice_get rows j ≡ Some row

pub tables_entry : (n : ℕ) (tables : List (List Row)) (s : Kept) (q : ℕ) (key row : Row) → fm.get (kept_at (put_tables n tables s).tables q) key ≡ Some row → (fm.get (kept_at s.tables q) key ≡ Some row) ⊎ IsEntered tables n s q key row
tables_entry n [] s q key row e = inl e
tables_entry n (rows ∷ tables) s q key row e = elim (tables_entry (suc n) tables (put_rows n rows s) q key row e) [
  | inl old ↦ elim (rows_entry n rows s q key row old) [
    | inl before ↦ inl before
    | inr new ↦ inr (record {
      key_is = ap (λ p. key_of (key_at s.key s.layers p) row) new.0 ∙ new.1;
      i = 0;
      at = Prim.omega (arith, new.0);
      rows = rows;
      there = refl;
      j = new.2;
      is = new.3;
    })
  ]
  | inr later ↦ inr (record {
    key_is =
        (λ i. key_of (key_at (sym (form_tables n (rows ∷ []) s).key i) (sym (form_tables n (rows ∷ []) s).layers i) q) row) ∙ later.key_is;
    i = suc later.i;
    at = Prim.omega (arith, later.at);
    rows = later.rows;
    there = later.there;
    j = later.j;
    is = later.is;
  })
]
