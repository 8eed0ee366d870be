-- A root row that is put in before other instances leave.
use Rattle.std.proofs.Common.{◌≡◌, ℕ, zero, suc, ◌+◌, Bool, true, false, not, cond, ◌&&◌, ◌||◌, nat_eq, Option, Some, None, is_some, List, [], ◌∷◌, length, map, slice_get, refl, sym, ap, ◌∙◌, arith}
use Rattle.std.specs.Option.{option_or}
use Rattle.std.specs.FinMap as fm
use Rattle.row_types.specs.declared.value.Value.{Value}
use Rattle.row_types.proofs.OrderLaws.{key_exact, key_total}
use Rattle.indexed_rows.specs.Rows.{Table, is_same, key_of, put_in}
use Rattle.indexed_rows.proofs.EntryLaws.{same_values}
use Rattle.instances.specs.Views.{kept_at}
use Rattle.outside.specs.declared.changes.Touched.{Touched}
use Rattle.cache_store.specs.Operating.{change_at}
use Rattle.cache_store.proofs.JoinLaws.{get_put_in, or_none}
use Rattle.group_store.specs.Stores.{Kept, cut_store, renewed_store}
use Rattle.group_store.specs.Trees.{Layer, cut_from, keep, leads, parent_of, passes_up}
use Rattle.changed_sets.specs.Turning.{bare_of, cut_all, cut_by, cut_of}

abbrev Row : Type 0
Row = List Value

abbrev pub put_root : List ℕ → Row → List Table → List Table
put_root key row ts = change_at 0 (λ t. put_in t (key_of key row) row) ts

abbrev pub cut_root : List Layer → Row → List Table → List Table
cut_root layers root ts = cut_from layers ts 0 root

pub apart : (a b : Row) → (a ≡ b → ⊥) → is_same a b ≡ false
apart a b other = by (is_same a b) refl
  where
    by : (c : Bool) → is_same a b ≡ c → is_same a b ≡ false
    by true e = absurd (other (same_values a b e))
    by false e = e

-- ---- what leads to another root

contains_put : (a : Table) (k row r : Row) → is_same r k ≡ false → fm.contains_key (put_in a k row) r ≡ fm.contains_key a r
contains_put a k row r e =
    ap is_some (get_put_in a k row r)
    ∙ ap (λ b. is_some (option_or (fm.get a r) (cond b (Some row) None))) e
    ∙ ap is_some (or_none (fm.get a r))

leads_same : (layers : List Layer) (a b : Table) (ts : List Table) (r : Row) → fm.contains_key a r ≡ fm.contains_key b r → (n place : ℕ) (key : Row) → leads layers (a ∷ ts) 0 r n place key ≡ leads layers (b ∷ ts) 0 r n place key
leads_same layers a b ts r e zero place key = ap (λ c. nat_eq place 0 && is_same key r && c) e
leads_same layers a b ts r e (suc n) place key =
    (λ i. (nat_eq place 0 && is_same key r && e i) || passes_up (leads layers (a ∷ ts) 0 r n) (parent_of layers (a ∷ ts) place key))
    ∙ ap (λ o. (nat_eq place 0 && is_same key r && fm.contains_key b r) || passes_up (leads layers (a ∷ ts) 0 r n) o) (parent place)
    ∙ ap (λ c. (nat_eq place 0 && is_same key r && fm.contains_key b r) || c) (up (leads_same layers a b ts r e n) (parent_of layers (b ∷ ts) place key))
  where
    parent : (p : ℕ) → parent_of layers (a ∷ ts) p key ≡ parent_of layers (b ∷ ts) p key
    parent zero = refl
    parent (suc p) = refl

    up : ((p : ℕ) (q : Row) → leads layers (a ∷ ts) 0 r n p q ≡ leads layers (b ∷ ts) 0 r n p q) → (o : Option (ℕ × Row)) → passes_up (leads layers (a ∷ ts) 0 r n) o ≡ passes_up (leads layers (b ∷ ts) 0 r n) o
    up rest None = refl
    up rest (Some x) = rest x.0 x.1

not_led : (layers : List Layer) (ts : List Table) (r k : Row) → is_same k r ≡ false → (n : ℕ) → leads layers ts 0 r n 0 k ≡ false
not_led layers ts r k e zero = ap (λ b. b && fm.contains_key (kept_at ts 0) r) e
not_led layers ts r k e (suc n) = ap (λ b. (b && fm.contains_key (kept_at ts 0) r) || false) e

-- ---- rows of one table

rows_commute : (a : Table) (k row : Row) (f : Row → Bool) → f k ≡ true → fm.retain_keys (put_in a k row) f ≡ put_in (fm.retain_keys a f) k row
rows_commute a k row f keeps =
    fm.same_map key_total key_exact (fm.retain_keys (put_in a k row) f) (put_in (fm.retain_keys a f) k row)
    (λ key.
    fm.get-retain_keys (put_in a k row) f key (λ x tie. ap f (sym (key_exact key x tie)))
    ∙ ap (λ o. cond (f key) o None) (get_put_in a k row key)
    ∙ by key (f key) refl (is_same key k) refl
    ∙ sym (get_put_in (fm.retain_keys a f) k row key
    ∙ ap (λ o. option_or o (cond (is_same key k) (Some row) None)) (fm.get-retain_keys a f key (λ x tie. ap f (sym (key_exact key x tie))))))
  where
    by : (key : Row) (b : Bool) → f key ≡ b → (c : Bool) → is_same key k ≡ c
        → cond (f key) (option_or (fm.get a key) (cond (is_same key k) (Some row) None)) None ≡ option_or (cond (f key) (fm.get a key) None) (cond (is_same key k) (Some row) None)
    by key true e c g =
        ap (λ d. cond d (option_or (fm.get a key) (cond (is_same key k) (Some row) None)) None) e
        ∙ sym (ap (λ d. option_or (cond d (fm.get a key) None) (cond (is_same key k) (Some row) None)) e)
    by key false e true g = let wrong : true ≡ false = sym keeps ∙ ap f (sym (same_values key k g)) ∙ e in cc
    by key false e false g =
        ap (λ d. cond d (option_or (fm.get a key) (cond (is_same key k) (Some row) None)) None) e
        ∙ sym (λ i. option_or (cond (e i) (fm.get a key) None) (cond (g i) (Some row) None))

puts_commute : (a : Table) (k row l other : Row) → (k ≡ l → ⊥) → put_in (put_in a k row) l other ≡ put_in (put_in a l other) k row
puts_commute a k row l other differ =
    fm.same_map key_total key_exact (put_in (put_in a k row) l other) (put_in (put_in a l other) k row)
    (λ key.
    get_put_in (put_in a k row) l other key
    ∙ ap (λ o. option_or o (cond (is_same key l) (Some other) None)) (get_put_in a k row key)
    ∙ by key (fm.get a key) (is_same key k) refl (is_same key l) refl
    ∙ sym (get_put_in (put_in a l other) k row key ∙ ap (λ o. option_or o (cond (is_same key k) (Some row) None)) (get_put_in a l other key)))
  where
    by : (key : Row) (o : Option Row) (b : Bool) → is_same key k ≡ b → (c : Bool) → is_same key l ≡ c
        → option_or (option_or o (cond b (Some row) None)) (cond c (Some other) None) ≡ option_or (option_or o (cond c (Some other) None)) (cond b (Some row) None)
    by key (Some x) b e c f = refl
    by key None true e true f = absurd (differ (sym (same_values key k e) ∙ same_values key l f))
    by key None true e false f = refl
    by key None false e true f = refl
    by key None false e false f = refl

-- ---- tables

module _ (layers : List Layer) (key : List ℕ) (row : Row) where
  pub cut_put : (r : Row) → (key_of key row ≡ r → ⊥) → (ts : List Table) → cut_root layers r (put_root key row ts) ≡ put_root key row (cut_root layers r ts)
  cut_put r differ [] = refl
  cut_put r differ (a ∷ ts) =
      (λ i. fm.retain_keys (put_in a (key_of key row) row) (λ q. not (led i 0 q)) ∷ keep (λ place q. not (led i (suc place) q)) ts)
      ∙ ap (λ t. t ∷ keep (λ place q. not (leads layers (a ∷ ts) 0 r (length layers) (suc place) q)) ts)
      (rows_commute a (key_of key row) row (λ q. not (leads layers (a ∷ ts) 0 r (length layers) 0 q)) (ap not (not_led layers (a ∷ ts) r (key_of key row) (apart (key_of key row) r differ) (length layers))))
    where
      led : leads layers (put_in a (key_of key row) row ∷ ts) 0 r (length layers) ≡ leads layers (a ∷ ts) 0 r (length layers)
      led = λ i place q. leads_same layers (put_in a (key_of key row) row) a ts r (contains_put a (key_of key row) row r (apart r (key_of key row) (λ e. differ (sym e)))) (length layers) place q i

  pub roots_commute : (other : Row) → (key_of key row ≡ key_of key other → ⊥) → (ts : List Table) → put_root key other (put_root key row ts) ≡ put_root key row (put_root key other ts)
  roots_commute other differ [] = refl
  roots_commute other differ (a ∷ ts) = ap (λ t. t ∷ ts) (puts_commute a (key_of key row) row (key_of key other) other differ)

  contains_first : (r : Row) → (key_of key row ≡ r → ⊥) → (ts : List Table) → fm.contains_key (kept_at (put_root key row ts) 0) r ≡ fm.contains_key (kept_at ts 0) r
  contains_first r differ [] = refl
  contains_first r differ (a ∷ ts) = contains_put a (key_of key row) row r (apart r (key_of key row) (λ e. differ (sym e)))

pub put_long : (key : List ℕ) (row : Row) (ts : List Table) → length (put_root key row ts) ≡ length ts
put_long key row [] = refl
put_long key row (a ∷ ts) = refl

pub first_put : (key : List ℕ) (row : Row) (ts : List Table) (n : ℕ) → length ts ≡ 1 + n → kept_at (put_root key row ts) 0 ≡ put_in (kept_at ts 0) (key_of key row) row
first_put key row [] n long = absurd (omega (arith, long))
first_put key row (a ∷ ts) n long = refl

pub later_put : (key : List ℕ) (row : Row) (ts : List Table) (i : ℕ) → kept_at (put_root key row ts) (suc i) ≡ kept_at ts (suc i)
later_put key row [] i = refl
later_put key row (a ∷ ts) i = refl

-- ---- one that is told at first, and all

-- the root row that is left of it, where it is there
abbrev pub one_cut : List Layer → List ℕ → Option Row → Row → List Table → List Table
one_cut layers key None root ts = cut_root layers root ts
one_cut layers key (Some row) root ts =
    cond (fm.contains_key (kept_at ts 0) root) (put_root key row (cut_root layers root ts)) (cut_root layers root ts)

-- the root row of one that is shown then
abbrev pub row_of : (Touched → Bool) → Touched → Option Row
row_of shown t = cond (shown t) (fm.get (kept_at t.instance.rows 0) t.instance.root) None

abbrev pub cut_tables : List Layer → List ℕ → (Touched → Bool) → List Touched → List Table → List Table
cut_tables layers key shown [] ts = ts
cut_tables layers key shown (t ∷ told) ts = cut_tables layers key shown told (one_cut layers key (row_of shown t) t.instance.root ts)

late_one : (layers : List Layer) (key : List ℕ) (row : Row) (o : Option Row) (r : Row) (ts : List Table) → (key_of key row ≡ r → ⊥) → ((other : Row) → o ≡ Some other → key_of key other ≡ r)
    → one_cut layers key o r (put_root key row ts) ≡ put_root key row (one_cut layers key o r ts)
late_one layers key row None r ts differ under = cut_put layers key row r differ ts
late_one layers key row (Some other) r ts differ under =
    ap (λ b. cond b (put_root key other (cut_root layers r (put_root key row ts))) (cut_root layers r (put_root key row ts))) (contains_first layers key row r differ ts)
    ∙ by (fm.contains_key (kept_at ts 0) r)
  where
    by : (b : Bool) → cond b (put_root key other (cut_root layers r (put_root key row ts))) (cut_root layers r (put_root key row ts)) ≡ put_root key row (cond b (put_root key other (cut_root layers r ts)) (cut_root layers r ts))
    by true = ap (put_root key other) (cut_put layers key row r differ ts) ∙ roots_commute layers key row other (λ e. differ (e ∙ under other refl)) (cut_root layers r ts)
    by false = cut_put layers key row r differ ts

-- a root row of another key may as well be put in last
pub all_late : (layers : List Layer) (key : List ℕ) (shown : Touched → Bool) (row : Row) (told : List Touched) → ((i : ℕ) (u : Touched) → slice_get told i ≡ Some u → key_of key row ≡ u.instance.root → ⊥)
    → ((i : ℕ) (u : Touched) → slice_get told i ≡ Some u → (other : Row) → row_of shown u ≡ Some other → key_of key other ≡ u.instance.root) → (ts : List Table)
    → cut_tables layers key shown told (put_root key row ts) ≡ put_root key row (cut_tables layers key shown told ts)
all_late layers key shown row [] differ under ts = refl
all_late layers key shown row (u ∷ told) differ under ts =
    ap (cut_tables layers key shown told) (late_one layers key row (row_of shown u) u.instance.root ts (differ 0 u refl) (under 0 u refl))
    ∙ all_late layers key shown row told (λ i v at. differ (suc i) v at) (λ i v at. under (suc i) v at) (one_cut layers key (row_of shown u) u.instance.root ts)

-- ---- so it is of stores

bare_is : (b : Bool) (o : Option Row) → cond b (bare_of o) None ≡ bare_of (cond b o None)
bare_is true o = refl
bare_is false o = refl

-- what a cut leaves of a store
record LeavesTables (layers : List Layer) (key : List ℕ) (ts : List Table) (x : Kept) : Type 0 where
  layers_are : x.layers ≡ layers
  key_is : x.key ≡ key
  tables : x.tables ≡ ts

one_store : (o : Option Row) (r : Row) (x : Kept) → LeavesTables x.layers x.key (one_cut x.layers x.key o r x.tables) (cut_by (bare_of o) r x)
one_store None r x = record { layers_are = refl; key_is = refl; tables = refl }
one_store (Some row) r x = by (fm.contains_key (kept_at x.tables 0) r)
  where
    by : (b : Bool) → LeavesTables x.layers x.key (cond b (put_root x.key row (cut_root x.layers r x.tables)) (cut_root x.layers r x.tables)) (cond b (renewed_store r ((row ∷ []) ∷ []) x) (cut_store 0 r x))
    by true = record { layers_are = refl; key_is = refl; tables = refl }
    by false = record { layers_are = refl; key_is = refl; tables = refl }

pub tables_cut : (shown : Touched → Bool) (told : List Touched) (x : Kept) → (cut_all (map (cut_of shown) told) x).tables ≡ cut_tables x.layers x.key shown told x.tables
tables_cut shown [] x = refl
tables_cut shown (t ∷ told) x =
    let one = one_store (row_of shown t) t.instance.root x in
    ap (λ bare. (cut_all (map (cut_of shown) told) (cut_by bare t.instance.root x)).tables) (bare_is (shown t) (fm.get (kept_at t.instance.rows 0) t.instance.root))
    ∙ tables_cut shown told (cut_by (bare_of (row_of shown t)) t.instance.root x)
    ∙ (λ i. cut_tables (one.layers_are i) (one.key_is i) shown told (one.tables i))
