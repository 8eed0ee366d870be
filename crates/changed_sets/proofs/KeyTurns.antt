-- What a refresh by the changed instances makes of the keys in the order of last use.
use Rattle.std.proofs.Common.{◌≡◌, ◌⊎◌, ℕ, zero, suc, Bool, true, false, not, cond, ◌&&◌, ◌||◌, Option, Some, None, is_some, List, [], ◌∷◌, ◌++◌, filter, append_assoc, refl, sym, ap, ◌∙◌, arith}
use Rattle.std.proofs.lemmas.List.{append-nil}
use Rattle.std.specs.Option.{option_or}
use Rattle.std.specs.FinMap as fm
use Rattle.row_types.specs.declared.value.Value.{Value}
use Rattle.indexed_rows.specs.Rows.{Table, is_same, key_of, put_in}
use Rattle.indexed_rows.proofs.EntryLaws.{same_values}
use Rattle.instances.specs.Views.{kept_at}
use Rattle.cache_store.specs.Operating.{change_at}
use Rattle.cache_store.proofs.JoinLaws.{get_put_in}
use Rattle.cache_store.proofs.InsertLaws.{nat_eq_other}
use Rattle.group_store.specs.Recent.{entered_last}
use Rattle.group_store.specs.Stores.{HasRootKeys, Kept, cut_store, put_rows, put_store, put_tables, renewed_store}
use Rattle.group_store.specs.Trees.{key_at}
use Rattle.cache_tier.specs.Groups.{is_key}
use Rattle.cache_tier.proofs.KeyListLaws.{key_append}
use Rattle.order_laws.proofs.TruthLaws.{or_true}
use Rattle.changed_sets.specs.Fresh.{keys_touched}
use Rattle.changed_sets.specs.Turning.{cut_all, cut_by, put_back, put_shown, turned}
use Rattle.changed_sets.specs.declared.turns.Cut.{Cut}
use Rattle.changed_sets.specs.declared.turns.Turn.{Turn}
use Rattle.changed_sets.proofs.OrderLaws.{distinct_of, in_order}

abbrev Row : Type 0
Row = List Value

-- ---- keys that stay

-- some of the keys are left, in their order
pub record AreLeft (old new : List Row) : Type 0 where
  pub test : Row → Bool
  pub are : new ≡ filter test old

filter_all : (l : List Row) → filter (λ k. true) l ≡ l
filter_all [] = refl
filter_all (x ∷ l) = ap (λ r. x ∷ r) (filter_all l)

filter_both : (p q : Row → Bool) (l : List Row) → filter q (filter p l) ≡ filter (λ k. p k && q k) l
filter_both p q [] = refl
filter_both p q (x ∷ l) = by (p x) (filter_both p q l)
  where
    by : (b : Bool) → filter q (filter p l) ≡ filter (λ k. p k && q k) l → filter q (cond b (x ∷ filter p l) (filter p l)) ≡ cond (b && q x) (x ∷ filter (λ k. p k && q k) l) (filter (λ k. p k && q k) l)
    by true rest = ap (λ r. cond (q x) (x ∷ r) r) rest
    by false rest = rest

one_leaves : (bare : Option (List (List (List Value)))) (root : Row) (s : Kept) → AreLeft s.keys (cut_by bare root s).keys
one_leaves None root s = record { test = λ other. not (is_same root other); are = refl }
one_leaves (Some rows) root s = by (fm.contains_key (kept_at s.tables 0) root)
  where
    by : (c : Bool) → AreLeft s.keys (cond c (renewed_store root rows s) (cut_store 0 root s)).keys
    by true = record { test = λ k. true; are = sym (filter_all s.keys) }
    by false = record { test = λ other. not (is_same root other); are = refl }

pub keys_left : (cuts : List Cut) (s : Kept) → AreLeft s.keys (cut_all cuts s).keys
keys_left [] s = record { test = λ k. true; are = sym (filter_all s.keys) }
keys_left (c ∷ cuts) s =
    let one = one_leaves c.bare c.root s in
    let rest = keys_left cuts (cut_by c.bare c.root s) in
    record { test = λ k. one.test k && rest.test k; are = rest.are ∙ ap (filter rest.test) one.are ∙ filter_both one.test rest.test s.keys }

-- ---- keys that come

-- new keys come behind the others; a root row that was there stays
pub record Appends (old new : Kept) : Type 0 where
  pub keys : List Row
  pub are : new.keys ≡ old.keys ++ keys
  pub fresh : (k : Row) → is_key keys k ≡ true → fm.contains_key (kept_at old.tables 0) k ≡ false
  pub grows : (k : Row) → fm.contains_key (kept_at old.tables 0) k ≡ true → fm.contains_key (kept_at new.tables 0) k ≡ true

nothing : (s : Kept) → Appends s s
nothing s = record { keys = []; are = sym (append-nil s.keys); fresh = λ k e. cc; grows = λ k e. e }

both : (a b c : Kept) → Appends a b → Appends b c → Appends a c
both a b c x y = record {
  keys = x.keys ++ y.keys;
  are = y.are ∙ ap (λ l. l ++ y.keys) x.are ∙ append_assoc a.keys x.keys y.keys;
  fresh = λ k e. fresh k (is_key x.keys k) refl (sym (key_append x.keys y.keys k) ∙ e);
  grows = λ k e. y.grows k (x.grows k e);
}
  where
    fresh : (k : Row) (d : Bool) → is_key x.keys k ≡ d → (is_key x.keys k || is_key y.keys k) ≡ true → fm.contains_key (kept_at a.tables 0) k ≡ false
    fresh k true e f = x.fresh k e
    fresh k false e f = of (fm.contains_key (kept_at a.tables 0) k) refl
      where
        there : is_key y.keys k ≡ true
        there = sym (ap (λ d. d || is_key y.keys k) e) ∙ f

        of : (d : Bool) → fm.contains_key (kept_at a.tables 0) k ≡ d → fm.contains_key (kept_at a.tables 0) k ≡ false
        of true g = let wrong : true ≡ false = sym (x.grows k g) ∙ y.fresh k there in cc
        of false g = g

put_grows : (ts : List Table) (k row x : Row) → fm.contains_key (kept_at ts 0) x ≡ true → fm.contains_key (kept_at (change_at 0 (λ t. put_in t k row) ts) 0) x ≡ true
put_grows [] k row x e = e
put_grows (a ∷ ts) k row x e = ap is_some (get_put_in a k row x) ∙ some_or (fm.get a x) e
  where
    some_or : (o : Option Row) → is_some o ≡ true → is_some (option_or o (cond (is_same x k) (Some row) None)) ≡ true
    some_or None f = cc
    some_or (Some y) f = refl

one_row : (place : ℕ) (row : Row) (s : Kept) → Appends s (put_store place row s)
one_row zero row s = by (fm.contains_key (kept_at s.tables 0) (key_of s.key row)) refl
  where
    one : (x : Row) → is_key (key_of s.key row ∷ []) x ≡ true → x ≡ key_of s.key row
    one x e = of (is_same x (key_of s.key row)) refl e
      where
        of : (b : Bool) → is_same x (key_of s.key row) ≡ b → (b || false) ≡ true → x ≡ key_of s.key row
        of true f g = same_values x (key_of s.key row) f
        of false f g = cc

    by : (c : Bool) → fm.contains_key (kept_at s.tables 0) (key_of s.key row) ≡ c → Appends s (put_store zero row s)
    by true e = record {
      keys = [];
      are = ap (λ d. cond d s.keys (s.keys ++ key_of s.key row ∷ [])) e ∙ sym (append-nil s.keys);
      fresh = λ k f. cc;
      grows = λ k f. put_grows s.tables (key_of s.key row) row k f;
    }
    by false e = record {
      keys = key_of s.key row ∷ [];
      are = ap (λ d. cond d s.keys (s.keys ++ key_of s.key row ∷ [])) e;
      fresh = λ k f. ap (fm.contains_key (kept_at s.tables 0)) (one k f) ∙ e;
      grows = λ k f. put_grows s.tables (key_of s.key row) row k f;
    }
one_row (suc place) row s = record {
  keys = [];
  are =
      ap (λ b. cond b (entered_last (kept_at s.tables 0) (key_of s.key row) s.keys) s.keys) (nat_eq_other (suc place) 0 (λ z. absurd (omega (arith, z))))
      ∙ sym (append-nil s.keys);
  fresh = λ k f. cc;
  grows = λ k f. later s.tables k f;
}
  where
    later : (ts : List Table) (k : Row) → fm.contains_key (kept_at ts 0) k ≡ true → fm.contains_key (kept_at (change_at (suc place) (λ t. put_in t (key_of (key_at s.key s.layers (suc place)) row) row) ts) 0) k ≡ true
    later [] k f = f
    later (a ∷ ts) k f = f

rows_come : (place : ℕ) (rows : List Row) (s : Kept) → Appends s (put_rows place rows s)
rows_come place [] s = nothing s
rows_come place (row ∷ rows) s = both s (put_store place row s) (put_rows place rows (put_store place row s)) (one_row place row s) (rows_come place rows (put_store place row s))

tables_come : (place : ℕ) (tables : List (List Row)) (s : Kept) → Appends s (put_tables place tables s)
tables_come place [] s = nothing s
tables_come place (rows ∷ tables) s = both s (put_rows place rows s) (put_tables (suc place) tables (put_rows place rows s)) (rows_come place rows s) (tables_come (suc place) tables (put_rows place rows s))

one_comes : (rows : Option (List (List Row))) (s : Kept) → Appends s (put_shown rows s)
one_comes None s = nothing s
one_comes (Some rows) s = tables_come 0 rows s

pub keys_come : (turns : List Turn) (s : Kept) → Appends s (put_back turns s)
keys_come [] s = nothing s
keys_come (t ∷ turns) s = both s (put_shown t.rows s) (put_back turns (put_shown t.rows s)) (one_comes t.rows s) (keys_come turns (put_shown t.rows s))

-- ---- so the keys that stay keep their places, and those that are gained come behind them

abbrev there : Kept → Row → Bool
there s k = fm.contains_key (kept_at s.tables 0) k

module _ (cuts : List Cut) (turns : List Turn) (s m : Kept) (has : HasRootKeys s) (new : HasRootKeys m) (keys_are : m.keys ≡ (turned cuts turns s).keys) (more : List Row)
    (stays : (k : Row) → there m k ≡ true → there s k ≡ true → there (cut_all cuts s) k ≡ true) (gained : (k : Row) → there m k ≡ true → there s k ≡ false → is_key more k ≡ true)
    (comes : (k : Row) → is_key more k ≡ true → there m k ≡ true) (unheld : (k : Row) → is_key more k ≡ true → there s k ≡ false) where
  left : AreLeft s.keys (cut_all cuts s).keys
  left = keys_left cuts s

  come : Appends (cut_all cuts s) (turned cuts turns s)
  come = keys_come turns (cut_all cuts s)

  all_are : m.keys ≡ filter left.test s.keys ++ come.keys
  all_are = keys_are ∙ come.are ∙ ap (λ l. l ++ come.keys) left.are

  new_there : (k : Row) → is_key come.keys k ≡ true → there m k ≡ true
  new_there k e =
      sym (new.are k) ∙ ap (λ l. is_key l k) all_are ∙ key_append (filter left.test s.keys) come.keys k
      ∙ ap (λ b. is_key (filter left.test s.keys) k || b) e ∙ or_true (is_key (filter left.test s.keys) k)

  not_old : (k : Row) → is_key s.keys k ≡ true → is_key come.keys k ≡ false
  not_old k e = by (is_key come.keys k) refl
    where
      by : (b : Bool) → is_key come.keys k ≡ b → is_key come.keys k ≡ false
      by true f = let wrong : true ≡ false = sym (stays k (new_there k f) (sym (has.are k) ∙ e)) ∙ come.fresh k f in cc
      by false f = f

  new_gained : (k : Row) → is_key come.keys k ≡ true → is_key more k ≡ true
  new_gained k e = by (is_key s.keys k) refl
    where
      by : (b : Bool) → is_key s.keys k ≡ b → is_key more k ≡ true
      by true f = let wrong : true ≡ false = sym e ∙ not_old k f in cc
      by false f = gained k (new_there k e) (sym (has.are k) ∙ f)

  pub keys_in_order : (more ≡ []) ⊎ ((k : Row) × (more ≡ k ∷ [])) → m.keys ≡ keys_touched more (keys_touched s.keys m.keys)
  keys_in_order few =
      in_order s.keys (distinct_of s.keys (λ k e. has.once k (sym (has.are k) ∙ e))) left.test come.keys m.keys more all_are (λ k e. new.once k (sym (new.are k) ∙ e))
      not_old new_gained (λ k e. new.are k ∙ comes k e) (λ k e. has.are k ∙ unheld k e) few
