-- Keys that are touched one after another, and what operations committed together leave.
use Rattle.std.proofs.Common.{◌≡◌, ℕ, zero, suc, ◌+◌, ◌<◌, Bool, true, false, not, cond, T, ◌&&◌, ◌||◌, List, [], ◌∷◌, ◌++◌, map, filter, fold, drop, length, slice_get, Option, Some, None, is_some, refl, sym, ap, subst, ◌∙◌, arith}
use Rattle.std.specs.List.{flat_map}
use Rattle.std.specs.Ordering.{is_eq, is_lt}
use Rattle.std.specs.declared.cmp.Ordering.{Ordering}
use Rattle.std.specs.declared.cmp.Ordering.TheVariants.{Equal, Greater, Less}
use Rattle.std.specs.FinMap as fm
use Rattle.std.specs.FinMap.Entries.{below_all}
use Rattle.slot_rows.specs.row_types.specs.declared.value.Value.{Value}
use Rattle.slot_rows.specs.row_types.specs.Order.{key_order}
use Rattle.slot_rows.specs.row_types.proofs.OrderLaws.{key_total}
use Rattle.slot_rows.specs.tier_base.specs.declared.number.TableId.{TableId}
use Rattle.slot_rows.specs.indexed_rows.specs.Rows.{Table, is_same, key_of, put_in, put_over}
use Rattle.slot_rows.specs.indexed_rows.proofs.EntryLaws.{same_itself, same_values}
use Rattle.cache_store.specs.table_state.specs.declared.operation.Op.{Op}
use Rattle.cache_store.specs.table_state.specs.declared.operation.Op.TheVariants.{Delete, Insert, Update}
use Rattle.cache_store.specs.instances.specs.Trees.{same_table}
use Rattle.cache_store.specs.instances.specs.Views.{kept_at}
use Rattle.cache_store.specs.recency.specs.Rings.{keys_without}
use Rattle.cache_store.specs.Operating.{change_at}
use Rattle.cache_store.specs.Shown.{is_among}
use Rattle.group_store.specs.Entering.{Keys, entered, entered_by, left_by, with_entered}
use Rattle.group_store.specs.Stores.{Kept, at_place, op_done, ops_done, place_in, put_store, replace_store, take_store}
use Rattle.group_store.specs.Trees.{key_at}
use Rattle.group_store.proofs.EnterLaws.{Alike, all_tracked, alike, among_append, append_both, at_root, elsewhere, filter_append, filter_twice, has_less, has_more, none_left, op_alike, turned}

abbrev Row : Type 0
Row = List Value

-- keys become the newest, one after another
abbrev pub touched_all : List Row → List Row → List Row
touched_all [] keys = keys
touched_all (k ∷ ks) keys = touched_all ks (keys_without is_same k keys ++ k ∷ [])

-- each key differs from those behind it
abbrev pub Apart : List Row → Type 0
Apart [] = Unit {0}
Apart (k ∷ ks) = (is_among ks k ≡ false) × Apart ks

all_kept : (keys : List Row) → filter (λ k. true) keys ≡ keys
all_kept [] = refl
all_kept (k ∷ keys) = ap (λ l. k ∷ l) (all_kept keys)

pub all_behind : (ks keys : List Row) → Apart ks → touched_all ks keys ≡ filter (λ k. not (is_among ks k)) keys ++ ks
all_behind [] keys apart = sym (all_kept keys) ∙ sym (none_left (filter (λ k. true) keys))
all_behind (k ∷ ks) keys apart =
    let rest = all_behind ks (keys_without is_same k keys ++ k ∷ []) apart.1 in
    let parted = filter_append (λ x. not (is_among ks x)) (keys_without is_same k keys) (k ∷ []) in
    let last : filter (λ x. not (is_among ks x)) (k ∷ []) ≡ k ∷ [] = ap (λ b. cond (not b) (k ∷ []) []) apart.0 in
    let once = filter_twice (λ o. not (is_same k o)) (λ x. not (is_among ks x)) keys in
    let same = alike (λ x. not (is_same k x) && not (is_among ks x)) (λ x. not (is_same x k || is_among ks x)) keys (λ x. ap (λ b. not b && not (is_among ks x)) (turned k x) ∙ neither (is_same x k) (is_among ks x)) in
    rest ∙ ap (λ l. l ++ ks) parted ∙ append_both (filter (λ x. not (is_among ks x)) (keys_without is_same k keys)) (filter (λ x. not (is_among ks x)) (k ∷ [])) ks
    ∙ (λ i. (once ∙ same) i ++ (last i ++ ks))
  where
    neither : (a b : Bool) → (not a && not b) ≡ not (a || b)
    neither true b = refl
    neither false b = refl

-- keys that rise differ
module _ {X : Type 0} where
  below : (x : Row) (es : List (Row × X)) → T (below_all key_order x es) → is_among (map (λ e. e.0) es) x ≡ false
  below x [] h = refl
  below x (e ∷ es) h = by (key_order x e.0) (below_all key_order x es) h (below x es)
    where
      by : (o : Ordering) (b : Bool) → T (is_lt o && b) → (T b → is_among (map (λ e. e.0) es) x ≡ false) → (is_eq o || is_among (map (λ e. e.0) es) x) ≡ false
      by Less b h rest = rest h
      by Equal b h rest = absurd h
      by Greater b h rest = absurd h

  apart : (es : List (Row × X)) → T (fm.is_sorted key_order es) → Apart (map (λ e. e.0) es)
  apart [] h = tt
  apart (e ∷ es) h = by (below_all key_order e.0 es) (fm.is_sorted key_order es) h (below e.0 es) (apart es)
    where
      by : (a b : Bool) → T (a && b) → (T a → is_among (map (λ e. e.0) es) e.0 ≡ false) → (T b → Apart (map (λ e. e.0) es)) → (is_among (map (λ e. e.0) es) e.0 ≡ false) × Apart (map (λ e. e.0) es)
      by true b h one rest = (one tt, rest h)
      by false b h one rest = absurd h

pub keys_apart : (roots : Keys) → Apart (fm.keys roots)
keys_apart roots = apart (fm.entries roots) (fm.entries_sorted roots)

-- the next key of a list, and its end
pub next_of : {A : Type 0} (ks : List A) (at : ℕ) (k : A) → slice_get ks at ≡ Some k → drop at ks ≡ k ∷ drop (at + 1) ks
next_of [] at k e = cc
next_of (x ∷ ks) zero k e = let z : x ≡ k = cc in ap (λ y. y ∷ ks) z
next_of (x ∷ ks) (suc i) k e = let z : suc (i + 1) ≡ suc i + 1 = omega arith in next_of ks i k e ∙ ap (λ n. k ∷ drop n (x ∷ ks)) z

pub none_before : {A : Type 0} (ks : List A) → drop 0 ks ≡ ks
none_before [] = refl
none_before (x ∷ ks) = refl

pub none_behind : {A : Type 0} (ks : List A) (n : ℕ) → (n < length ks → ⊥) → drop n ks ≡ []
none_behind [] zero h = refl
none_behind [] (suc n) h = refl
none_behind (x ∷ ks) zero h = absurd (h (omega arith))
none_behind (x ∷ ks) (suc n) h = none_behind ks n (λ lt. h (omega (arith, lt)))

pub among_at : (ks : List Row) (i : ℕ) (k : Row) → slice_get ks i ≡ Some k → is_among ks k ≡ true
among_at [] i k e = cc
among_at (x ∷ ks) zero k e = let z : x ≡ k = cc in ap (λ b. b || is_among ks k) (same_itself k x (sym z))
among_at (x ∷ ks) (suc i) k e = ap (λ b. is_same k x || b) (among_at ks i k e) ∙ or_true (is_same k x)
  where
    or_true : (b : Bool) → (b || true) ≡ true
    or_true true = refl
    or_true false = refl

-- the list behind all operations, and behind a touch of each key that they enter
pub committed_keys : (s : Kept) (ops : List Op) → touched_all (fm.keys (entered s ops)) (ops_done ops s).keys ≡ with_entered (fm.keys (entered s ops)) (flat_map (left_by s) ops) s.keys
committed_keys s ops =
    let roots = entered s ops in
    let left = flat_map (left_by s) ops in
    all_behind (fm.keys roots) (ops_done ops s).keys (keys_apart roots)
    ∙ ap (λ l. l ++ fm.keys roots) (
    alike (λ k. not (is_among (fm.keys roots) k)) (λ k. not (fm.contains_key roots k)) (ops_done ops s).keys (λ k. ap not (sym (fm.contains_key-keys roots k)))
    ∙ all_tracked s s.keys ops s (record { table = refl; key = refl }) fm.empty [] (alike (λ k. not (fm.contains_key fm.empty k)) (λ k. not (false || fm.contains_key fm.empty k)) s.keys (λ k. refl))
    ∙ alike (λ k. not (is_among left k || fm.contains_key roots k)) (λ k. not (is_among (left ++ fm.keys roots) k)) s.keys (λ k. ap (λ b. not (is_among left k || b)) (fm.contains_key-keys roots k) ∙ ap not (sym (among_append left (fm.keys roots) k)))
    )

-- the keys that operations enter have rows
abbrev Has : Kept → Keys → Type 0
Has s roots = (k : Row) → fm.contains_key roots k ≡ true → fm.contains_key (kept_at s.tables 0) k ≡ true

abbrev pub HasTables : Kept → Type 0
HasTables s = (t : Table) × (ts : List Table) × (s.tables ≡ t ∷ ts)

first_changed : (s : Kept) (f : Table → Table) → HasTables s → kept_at (change_at 0 f s.tables) 0 ≡ f (kept_at s.tables 0)
first_changed s f has = ap (λ ts. kept_at (change_at 0 f ts) 0) has.2 ∙ sym (ap (λ ts. f (kept_at ts 0)) has.2)

first_same : (s : Kept) (i : ℕ) (f : Table → Table) → HasTables s → kept_at (change_at (suc i) f s.tables) 0 ≡ kept_at s.tables 0
first_same s i f has = ap (λ ts. kept_at (change_at (suc i) f ts) 0) has.2 ∙ sym (ap (λ ts. kept_at ts 0) has.2)

still_tables : (s : Kept) (at : ℕ) (f : Table → Table) → HasTables s → (t : Table) × (ts : List Table) × (change_at at f s.tables ≡ t ∷ ts)
still_tables s zero f has = (f has.0, has.1, ap (change_at 0 f) has.2)
still_tables s (suc i) f has = (has.0, change_at i f has.1, ap (change_at (suc i) f) has.2)

op_tables : (op : Op) (s : Kept) → HasTables s → HasTables (op_done op s)
op_tables (Insert t row) s has = by (place_in s t)
  where
    by : (o : Option ℕ) → HasTables (at_place o (λ place. put_store place row) s)
    by None = has
    by (Some place) = still_tables s place (λ m. put_in m (key_of (key_at s.key s.layers place) row) row) has
op_tables (Update t old row) s has = by (place_in s t)
  where
    by : (o : Option ℕ) → HasTables (at_place o (λ place. replace_store place row) s)
    by None = has
    by (Some place) = still_tables s place (λ m. put_over m (key_of (key_at s.key s.layers place) row) row) has
op_tables (Delete t row) s has = by (place_in s t)
  where
    by : (o : Option ℕ) → HasTables (at_place o (λ place. take_store place row) s)
    by None = has
    by (Some place) = still_tables s place (λ m. fm.remove m (key_of (key_at s.key s.layers place) row)) has

-- what a table has behind a change
in_put : (m : Table) (key row k : Row) → fm.contains_key (put_in m key row) k ≡ (is_same k key || fm.contains_key m k)
in_put m key row k = by (fm.contains_key m key) refl
  where
    or_self : (b c : Bool) → (b ≡ true → c ≡ true) → c ≡ (b || c)
    or_self true c h = h refl
    or_self false c h = refl

    more : (b : Bool) (o : Option Row) → is_some (cond b (Some row) o) ≡ (b || is_some o)
    more true o = refl
    more false o = refl

    by : (b : Bool) → fm.contains_key m key ≡ b → fm.contains_key (cond b m (fm.insert m key row)) k ≡ (is_same k key || fm.contains_key m k)
    by true e = or_self (is_same k key) (fm.contains_key m k) (λ s. ap (fm.contains_key m) (same_values k key s) ∙ e)
    by false e = ap is_some (fm.get-insert key_total m key row k) ∙ more (is_same k key) (fm.get m k)

in_over : (m : Table) (key row k : Row) → fm.contains_key m k ≡ true → fm.contains_key (put_over m key row) k ≡ true
in_over m key row k has = by (fm.contains_key m key)
  where
    more : (b : Bool) → (is_some (fm.get m k) ≡ true) → is_some (cond b (Some row) (fm.get m k)) ≡ true
    more true h = refl
    more false h = h

    by : (b : Bool) → fm.contains_key (cond b (fm.insert m key row) m) k ≡ true
    by true = ap is_some (fm.get-insert key_total m key row k) ∙ more (is_same k key) has
    by false = has

in_less : (m : Table) (key k : Row) → fm.contains_key (fm.remove m key) k ≡ (not (is_same k key) && fm.contains_key m k)
in_less m key k = ap is_some (fm.get-remove key_total m key k) ∙ by (is_same k key) (fm.get m k)
  where
    by : (b : Bool) (o : Option Row) → is_some (cond b None o) ≡ (not b && is_some o)
    by true o = refl
    by false o = refl

-- either holds as before
or_has : (a b c : Bool) → (b ≡ true → c ≡ true) → (a || b) ≡ true → (a || c) ≡ true
or_has true b c h e = refl
or_has false b c h e = h e

and_has : (a b c : Bool) → (b ≡ true → c ≡ true) → (a && b) ≡ true → (a && c) ≡ true
and_has true b c h e = h e
and_has false b c h e = e

module _ (base s : Kept) (like : Alike s base) (tables : HasTables s) (roots : Keys) (has : Has s roots) where
  off : (t : TableId) → same_table base.table t ≡ false → same_table s.table t ≡ false
  off t e = ap (λ x. same_table x t) like.table ∙ e

  op_has : (op : Op) → Has (op_done op s) (entered_by base op roots)
  op_has (Insert t row) = by (same_table base.table t) refl
    where
      by : (b : Bool) → same_table base.table t ≡ b → Has (at_place (place_in s t) (λ place. put_store place row) s) (cond b (fm.insert roots (key_of base.key row) tt) roots)
      by true e =
          let here = at_root s t (ap (λ x. same_table x t) like.table ∙ e) in
          subst (λ o. Has (at_place o (λ place. put_store place row) s) (fm.insert roots (key_of base.key row) tt)) (sym here)
          (subst (λ ps. Has (put_store 0 row s) (fm.insert roots (key_of ps row) tt)) like.key (λ k in_roots.
          ap (λ m. fm.contains_key m k) (first_changed s (λ m. put_in m (key_of s.key row) row) tables) ∙ in_put (kept_at s.tables 0) (key_of s.key row) row k
          ∙ or_has (is_same k (key_of s.key row)) (fm.contains_key roots k) (fm.contains_key (kept_at s.tables 0) k) (has k) (sym (has_more roots (key_of s.key row) k) ∙ in_roots)))
      by false e = elsewhere s t (off t e) (λ o. Has (at_place o (λ place. put_store place row) s) roots) has (λ i k in_roots. ap (λ m. fm.contains_key m k) (first_same s i (λ m. put_in m (key_of (key_at s.key s.layers (suc i)) row) row) tables) ∙ has k in_roots)
  op_has (Update t was row) = by (place_in s t)
    where
      by : (o : Option ℕ) → Has (at_place o (λ place. replace_store place row) s) roots
      by None = has
      by (Some zero) = λ k in_roots. ap (λ m. fm.contains_key m k) (first_changed s (λ m. put_over m (key_of s.key row) row) tables) ∙ in_over (kept_at s.tables 0) (key_of s.key row) row k (has k in_roots)
      by (Some (suc i)) = λ k in_roots. ap (λ m. fm.contains_key m k) (first_same s i (λ m. put_over m (key_of (key_at s.key s.layers (suc i)) row) row) tables) ∙ has k in_roots
  op_has (Delete t row) = by (same_table base.table t) refl
    where
      by : (b : Bool) → same_table base.table t ≡ b → Has (at_place (place_in s t) (λ place. take_store place row) s) (cond b (fm.remove roots (key_of base.key row)) roots)
      by true e =
          let here = at_root s t (ap (λ x. same_table x t) like.table ∙ e) in
          subst (λ o. Has (at_place o (λ place. take_store place row) s) (fm.remove roots (key_of base.key row))) (sym here)
          (subst (λ ps. Has (take_store 0 row s) (fm.remove roots (key_of ps row))) like.key (λ k in_roots.
          ap (λ m. fm.contains_key m k) (first_changed s (λ m. fm.remove m (key_of s.key row)) tables) ∙ in_less (kept_at s.tables 0) (key_of s.key row) k
          ∙ and_has (not (is_same k (key_of s.key row))) (fm.contains_key roots k) (fm.contains_key (kept_at s.tables 0) k) (has k) (sym (has_less roots (key_of s.key row) k) ∙ in_roots)))
      by false e = elsewhere s t (off t e) (λ o. Has (at_place o (λ place. take_store place row) s) roots) has (λ i k in_roots. ap (λ m. fm.contains_key m k) (first_same s i (λ m. fm.remove m (key_of (key_at s.key s.layers (suc i)) row)) tables) ∙ has k in_roots)

all_have : (base : Kept) (ops : List Op) (s : Kept) → Alike s base → HasTables s → (roots : Keys) → Has s roots → Has (ops_done ops s) (fold (λ roots op. entered_by base op roots) roots ops)
all_have base [] s like tables roots has = has
all_have base (op ∷ ops) s like tables roots has = all_have base ops (op_done op s) (op_alike op s base like) (op_tables op s tables) (entered_by base op roots) (op_has base s like tables roots has op)

pub entered_there : (s : Kept) (ops : List Op) → HasTables s → (k : Row) → is_among (fm.keys (entered s ops)) k ≡ true → fm.contains_key (kept_at (ops_done ops s).tables 0) k ≡ true
entered_there s ops tables k e = all_have s ops s (record { table = refl; key = refl }) tables fm.empty (λ q h. let z : false ≡ true = sym (ap is_some (fm.get-empty key_order q)) ∙ h in cc) k (fm.contains_key-keys (entered s ops) k ∙ e)
