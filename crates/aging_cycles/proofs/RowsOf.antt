-- Stores whose rows are those of others, or came.
use Rattle.std.proofs.Common.{◌≡◌, ◌≢◌, ◌⊎◌, ℕ, zero, suc, Bool, true, false, cond, not, nat_eq, Option, Some, None, List, [], ◌∷◌, inl, inr, length, map, position, set, slice_get, arith, refl, sym, ap, subst, ◌∙◌}
use Rattle.std.proofs.lemmas.Bool.Decides.{eqb_tells}
use Rattle.std.specs.Option.{option_map}
use Rattle.std.specs.FinMap as fm
use Rattle.tier_base.specs.declared.number.TableId.{TableId}
use Rattle.row_types.specs.Order.{key_order}
use Rattle.row_types.specs.declared.value.Value.{Value}
use Rattle.row_types.proofs.OrderLaws.{key_exact}
use Rattle.indexed_rows.specs.Rows.{Table, key_of}
use Rattle.indexed_rows.proofs.EntryLaws.{at_has, unmapped_at}
use Rattle.table_defs.specs.declared.definition.TableDef.{TableDef}
use Rattle.instances.specs.declared.tree.Tree.{Tree}
use Rattle.instances.specs.Trees.{same_table}
use Rattle.instances.specs.Views.{kept_at}
use Rattle.order_laws.proofs.TruthLaws.{same_some}
use Rattle.group_store.specs.Keeping.{IsFor}
use Rattle.group_store.specs.Stores.{Kept, SameButSpare, cleared_store, cut_store, place_in, put_tables}
use Rattle.group_store.specs.Trees.{all_empty, keep, key_at, leads}
use Rattle.group_store.proofs.FormLaws.{place_same, stands_there}
use Rattle.stored_tier.proofs.PutLaws.{form_tables}
use Rattle.stored_tier.proofs.StoreChanges.{get_here, get_there}
use Rattle.aging_cycles.specs.Coming.{HasCome, HasRowsOf, HaveRowsOf}
use Rattle.aging_cycles.specs.Fitting.{AreFit, AreListedFit}
use Rattle.aging_cycles.proofs.EnteredRows.{tables_entry}

abbrev Row : Type 0
Row = List Value

-- rows of tables, in lists
pub listed_fit : (schema : List TableDef) (tree : Tree) (tables : List Table) → AreFit schema tree tables → AreListedFit schema tree (map fm.values tables)
listed_fit schema tree tables fit i j rows row t def at there is known =
    let (b, b_at, b_is) = unmapped_at fm.values tables i rows at in
    let (e, e_at, e_is) = unmapped_at (λ (x : Row × Row). x.1) (fm.entries b) j row (ap (λ l. slice_get l j) b_is ∙ there) in
    fit i b t def b_at is known e.0 row (at_has b j e e_at ∙ ap Some e_is)

-- ---- one store

pub rows_itself : (schema : List TableDef) (s : Kept) → HasRowsOf schema s s
rows_itself schema s = record { table = refl; key = refl; layers = refl; rows = λ i key row e. inl e }

-- its tables stand where they stood
pub placed_alike : (schema : List TableDef) (s x : Kept) → HasRowsOf schema s x → (t : TableId) → place_in x t ≡ place_in s t
placed_alike schema s x h t =
    ap (λ r. cond (same_table r t) (Some 0) (option_map suc (position (λ l. same_table l.table t) x.layers))) h.table
    ∙ ap (λ ls. cond (same_table s.table t) (Some 0) (option_map suc (position (λ l. same_table l.table t) ls))) h.layers

come_over : (schema : List TableDef) (s x : Kept) → HasRowsOf schema s x → (i : ℕ) (key row : Row) → HasCome schema x i key row → HasCome schema s i key row
come_over schema s x h i key row c = record {
  key_is = (λ j. key_of (key_at (sym h.key j) (sym h.layers j) i) row) ∙ c.key_is;
  fits = λ t def at is. c.fits t def (placed_alike schema s x h t ∙ at) is;
}

-- one change behind another
pub rows_through : (schema : List TableDef) (a b c : Kept) → HasRowsOf schema a b → HasRowsOf schema b c → HasRowsOf schema a c
rows_through schema a b c x y = record {
  table = y.table ∙ x.table;
  key = y.key ∙ x.key;
  layers = y.layers ∙ x.layers;
  rows = λ i key row e. elim (y.rows i key row e) [
    | inl stood ↦ x.rows i key row stood
    | inr came ↦ inr (come_over schema a b x i key row came)
  ];
}

-- another room
pub rows_alike : (schema : List TableDef) (a b : Kept) → SameButSpare a b → HasRowsOf schema a b
rows_alike schema a b same = record {
  table = same.table;
  key = same.key;
  layers = same.layers;
  rows = λ i key row e. inl (ap (λ ts. fm.get (kept_at ts i) key) (sym same.tables) ∙ e);
}

-- ---- rows leave

in_table : (b : Bool) (o : Option Row) (row : Row) → cond b o None ≡ Some row → o ≡ Some row
in_table true o row e = e
in_table false o row e = cc

kept_row : (test : ℕ → Row → Bool) (ts : List Table) (i : ℕ) (key row : Row) → fm.get (kept_at (keep test ts) i) key ≡ Some row → fm.get (kept_at ts i) key ≡ Some row
kept_row test [] i key row e = e
kept_row test (t ∷ ts) zero key row e = in_table (test 0 key) (fm.get t key) row (sym (fm.get-retain_keys t (test 0) key (λ x tie. ap (test 0) (sym (key_exact key x tie)))) ∙ e)
kept_row test (t ∷ ts) (suc i) key row e = kept_row (λ place. test (suc place)) ts i key row e

pub rows_cut : (schema : List TableDef) (key : Row) (s : Kept) → HasRowsOf schema s (cut_store 0 key s)
rows_cut schema key s = record {
  table = refl;
  key = refl;
  layers = refl;
  rows = λ i k row e. inl (kept_row (λ place at. not (leads s.layers s.tables 0 key (length s.layers) place at)) s.tables i k row e);
}

no_row : (ts : List Table) (i : ℕ) (key row : Row) → fm.get (kept_at (all_empty ts) i) key ≡ Some row → fm.get (kept_at ts i) key ≡ Some row
no_row [] i key row e = e
no_row (t ∷ ts) zero key row e = let none : None ≡ Some row = sym (fm.get-empty key_order key) ∙ e in cc
no_row (t ∷ ts) (suc i) key row e = no_row ts i key row e

pub rows_cleared : (schema : List TableDef) (s : Kept) → HasRowsOf schema s (cleared_store s)
rows_cleared schema s = record { table = refl; key = refl; layers = refl; rows = λ i key row e. inl (no_row s.tables i key row e) }

-- ---- rows come

pub rows_put : (schema : List TableDef) (tree : Tree) (lists : List (List Row)) (s : Kept) → IsFor schema tree s → AreListedFit schema tree lists → HasRowsOf schema s (put_tables 0 lists s)
rows_put schema tree lists s form fit = record {
  table = (form_tables 0 lists s).table;
  key = (form_tables 0 lists s).key;
  layers = (form_tables 0 lists s).layers;
  rows = λ i key row e. elim (tables_entry 0 lists s i key row e) [
    | inl stood ↦ inl stood
    | inr new ↦ inr (record {
      key_is = new.key_is;
      fits = λ t def at is. (
          let here : i ≡ new.i = Prim.omega (arith, new.at) in
          fit i new.j new.rows row t def (ap (slice_get lists) here ∙ new.there) new.is (stands_there tree t i (sym (place_same schema tree s form t) ∙ at)) is
          );
    })
  ];
}

-- ---- the stores of all groups

pub all_itself : (schema : List TableDef) (stores : List Kept) → HaveRowsOf schema stores stores
all_itself schema stores = record { long = refl; each = λ k s x at there. subst (HasRowsOf schema s) (same_some (sym at ∙ there)) (rows_itself schema s) }

there_too : (xs ys : List Kept) (k : ℕ) (x : Kept) → length ys ≡ length xs → slice_get xs k ≡ Some x → (y : Kept) × (slice_get ys k ≡ Some y)
there_too [] ys k x long at = cc
there_too (z ∷ xs) [] k x long at = absurd (omega (arith, long))
there_too (z ∷ xs) (y ∷ ys) zero x long at = (y, refl)
there_too (z ∷ xs) (y ∷ ys) (suc k) x long at = there_too xs ys k x (omega (arith, long)) at

pub all_through : (schema : List TableDef) (a b c : List Kept) → HaveRowsOf schema a b → HaveRowsOf schema b c → HaveRowsOf schema a c
all_through schema a b c x y = record {
  long = y.long ∙ x.long;
  each = λ k s z at there.
      let (m, between) = there_too a b k s x.long at in
      rows_through schema s m z (x.each k s m at between) (y.each k m z between there);
}

long_set : (xs : List Kept) (i : ℕ) (x : Kept) → length (set xs i x) ≡ length xs
long_set [] i x = refl
long_set (y ∷ xs) zero x = refl
long_set (y ∷ xs) (suc i) x = ap suc (long_set xs i x)

-- one of them is another
pub all_set : (schema : List TableDef) (stores : List Kept) (place : ℕ) (s x : Kept) → slice_get stores place ≡ Some s → HasRowsOf schema s x → HaveRowsOf schema stores (set stores place x)
all_set schema stores place s x kept has = record { long = long_set stores place x; each = λ k a b at there. by k a b at there (eqb_tells k place) }
  where
    by : (k : ℕ) (a b : Kept) → slice_get stores k ≡ Some a → slice_get (set stores place x) k ≡ Some b → ((nat_eq k place ≡ true) × (k ≡ place)) ⊎ ((nat_eq k place ≡ false) × (k ≢ place)) → HasRowsOf schema a b
    by k a b at there (inl here) =
        let old : s ≡ a = same_some (sym kept ∙ ap (slice_get stores) (sym here.1) ∙ at) in
        let new : x ≡ b = same_some (sym (get_here stores place s x kept) ∙ ap (slice_get (set stores place x)) (sym here.1) ∙ there) in
        subst (λ y. HasRowsOf schema y b) old (subst (HasRowsOf schema s) new has)
    by k a b at there (inr other) =
        let same : a ≡ b = same_some (sym at ∙ sym (get_there stores place k x other.1) ∙ there) in
        subst (HasRowsOf schema a) same (rows_itself schema a)
