-- A look-up finds what a filter by the key finds; and what is so of each row that is found is so of all rows.
use Rattle.std.proofs.Common.{◌≡◌, ℕ, zero, suc, Bool, true, false, cond, ◌&&◌, T, Some, None, is_some, List, [], ◌∷◌, eqb, length, map, slice_get, refl, sym, ap, subst, ◌∙◌}
use Rattle.std.specs.List.{filter, list_all}
use Rattle.std.specs.Option.{option_to_list}
use Rattle.std.specs.Ordering.{eq_by_cmp, is_eq, is_lt}
use Rattle.std.specs.declared.cmp.Ordering.{Ordering}
use Rattle.std.specs.declared.cmp.Ordering.TheVariants.{Less, Equal, Greater}
use Rattle.std.specs.Cmp.{eq_by_cmp_equiv}
use Rattle.std.proofs.lemmas.Bool.{eq-eqb}
use Rattle.std.specs.FinMap as fm
use Rattle.std.specs.FinMap.Entries.{below_all}
use Rattle.table_defs.specs.row_types.specs.declared.column.Column.{Column}
use Rattle.table_defs.specs.row_types.specs.declared.value.Value.{Value}
use Rattle.table_defs.specs.row_types.specs.Order.{key_order}
use Rattle.table_defs.specs.row_types.proofs.OrderLaws.{key_total, key_exact}
use Rattle.indexed_rows.specs.Rows.{Table, is_same, key_of}
use Rattle.table_state.specs.Tables.{fits_columns}
use Rattle.table_state.specs.Keyed.{HasFit, IsUnderKeys, has_key}
use Rattle.table_state.proofs.PairLaws.{Every, Pairs}

abbrev Row : Type 0
Row = List Value

-- each entry's key is that of its row
abbrev AreKeyed : List ℕ → List (Row × Row) → Type 0
AreKeyed places [] = Unit {0}
AreKeyed places (e ∷ es) = (e.0 ≡ key_of places e.1) × AreKeyed places es

-- the test of an entry's row is that of its key
tests_key : (places : List ℕ) (q key row : Row) → key ≡ key_of places row → has_key places q row ≡ eq_by_cmp key_order q key
tests_key places q key row e = ap (λ k. is_same k q) (sym e) ∙ (eq_by_cmp_equiv key_total).symm key q

less_is_not_equal : (o : Ordering) → T (is_lt o) → is_eq o ≡ false
less_is_not_equal Less h = refl
less_is_not_equal Equal h = absurd h
less_is_not_equal Greater h = absurd h

first_of : (a b : Bool) → T (a && b) → T a
first_of true b h = tt
first_of false b h = h

second_of : (a b : Bool) → T (a && b) → T b
second_of true b h = h
second_of false b h = absurd h

none_above : (places : List ℕ) (q : Row) (es : List (Row × Row)) → AreKeyed places es → T (below_all key_order q es) → [] ≡ filter (has_key places q) (map (λ e. e.1) es)
none_above places q [] k h = refl
none_above places q (e ∷ es) k h =
    let test : has_key places q e.1 ≡ false = tests_key places q e.0 e.1 k.0 ∙ less_is_not_equal (key_order q e.0) (first_of _ _ h) in
    rw test (none_above places q es k.1 (second_of _ _ h))

found_in : (places : List ℕ) (q : Row) (es : List (Row × Row)) → AreKeyed places es → T (fm.is_sorted key_order es) → option_to_list (fm.find key_order q es) ≡ filter (has_key places q) (map (λ e. e.1) es)
found_in places q [] k h = refl
found_in places q (e ∷ es) k h =
    rw (tests_key places q e.0 e.1 k.0) (by (key_order q e.0) refl (found_in places q es k.1 (second_of _ _ h)))
  where
    by : (o : Ordering) → key_order q e.0 ≡ o → option_to_list (fm.find key_order q es) ≡ filter (has_key places q) (map (λ x. x.1) es)
        → option_to_list (cond (is_eq o) (Some e.1) (fm.find key_order q es)) ≡ cond (is_eq o) (e.1 ∷ filter (has_key places q) (map (λ x. x.1) es)) (filter (has_key places q) (map (λ x. x.1) es))
    by Less is rest = rest
    by Equal is rest = ap (λ l. e.1 ∷ l) (none_above places q es k.1 (subst (λ x. T (below_all key_order x es)) (sym (key_exact q e.0 is)) (first_of _ _ h)))
    by Greater is rest = rest

not_found : (q : Row) (es : List (Row × Row)) → T (below_all key_order q es) → fm.find key_order q es ≡ None
not_found q [] h = refl
not_found q (e ∷ es) h =
    let other : eq_by_cmp key_order q e.0 ≡ false = less_is_not_equal (key_order q e.0) (first_of _ _ h) in
    rw other (not_found q es (second_of _ _ h))

-- the first entry is found, and each behind it
found_first : (e : Row × Row) (es : List (Row × Row)) → fm.find key_order e.0 (e ∷ es) ≡ Some e.1
found_first e es = ap (λ b. cond b (Some e.1) (fm.find key_order e.0 es)) ((eq_by_cmp_equiv key_total).refl e.0)

found_further : (e : Row × Row) (es : List (Row × Row)) → T (fm.is_sorted key_order (e ∷ es)) → (key row : Row) → fm.find key_order key es ≡ Some row → fm.find key_order key (e ∷ es) ≡ Some row
found_further e es h key row found = by (key_order key e.0) refl
  where
    by : (o : Ordering) → key_order key e.0 ≡ o → cond (is_eq o) (Some e.1) (fm.find key_order key es) ≡ Some row
    by Less is = found
    by Equal is =
        let gone : fm.find key_order key es ≡ None = not_found key es (subst (λ x. T (below_all key_order x es)) (sym (key_exact key e.0 is)) (first_of _ _ h)) in
        absurd (let e : None ≡ Some row = sym gone ∙ found in subst T (sym (ap is_some e)) tt)
    by Greater is = found

-- the entries of a map whose look-ups give rows of their keys
under_keys : (places : List ℕ) (es : List (Row × Row)) → T (fm.is_sorted key_order es) → ((key row : Row) → fm.find key_order key es ≡ Some row → key_of places row ≡ key) → AreKeyed places es
under_keys places [] h under = tt
under_keys places (e ∷ es) h under = (sym (under e.0 e.1 (found_first e es)), under_keys places es (second_of _ _ h) (λ key row found. under key row (found_further e es h key row found)))

-- the row of a key, as a list, is what the key selects
pub found_by_key : (places : List ℕ) (q : Row) (m : Table) → IsUnderKeys places m → option_to_list (fm.get m q) ≡ filter (has_key places q) (fm.values m)
found_by_key places q m under =
    ap option_to_list (fm.get-entries m q)
    ∙ found_in places q (fm.entries m) (under_keys places (fm.entries m) (fm.entries_sorted m) (λ key row found. under key row (fm.get-entries m key ∙ found))) (fm.entries_sorted m)

-- each row of a table fits its columns

abbrev are_fit : List Column → List (Row × Row) → Bool
are_fit columns es = list_all (fits_columns columns) (map (λ e. e.1) es)

fit_entries : (columns : List Column) (es : List (Row × Row)) → T (fm.is_sorted key_order es) → ((key row : Row) → fm.find key_order key es ≡ Some row → fits_columns columns row ≡ true) → are_fit columns es ≡ true
fit_entries columns [] h fits = refl
fit_entries columns (e ∷ es) h fits =
    ap (λ b. b && are_fit columns es) (fits e.0 e.1 (found_first e es))
    ∙ fit_entries columns es (second_of _ _ h) (λ key row found. fits key row (found_further e es h key row found))

pub all_fit : (columns : List Column) (m : Table) → HasFit columns m → list_all (fits_columns columns) (fm.values m) ≡ true
all_fit columns m fits = fit_entries columns (fm.entries m) (fm.entries_sorted m) (λ key row found. fits key row (fm.get-entries m key ∙ found))

-- each row of a table is found by its key, and another has another key

there_in : (places : List ℕ) (m : Table) (es : List (Row × Row)) → T (fm.is_sorted key_order es) → IsUnderKeys places m → ((key row : Row) → fm.find key_order key es ≡ Some row → fm.get m key ≡ Some row) →
    Every (λ row. fm.get m (key_of places row) ≡ Some row) (map (λ e. e.1) es)
there_in places m [] h under up = tt
there_in places m (e ∷ es) h under up =
    let here : fm.get m e.0 ≡ Some e.1 = up e.0 e.1 (found_first e es) in (
      ap (fm.get m) (under e.0 e.1 here) ∙ here,
      there_in places m es (second_of _ _ h) under (λ key row found. up key row (found_further e es h key row found)),
    )

pub rows_there : (places : List ℕ) (m : Table) → IsUnderKeys places m → Every (λ row. fm.get m (key_of places row) ≡ Some row) (fm.values m)
rows_there places m under = there_in places m (fm.entries m) (fm.entries_sorted m) under (λ key row found. fm.get-entries m key ∙ found)

not_less : (key : Row) → T (is_lt (key_order key key)) → ⊥
not_less key h = by (is_eq (key_order key key)) (less_is_not_equal (key_order key key) h) ((eq_by_cmp_equiv key_total).refl key)
  where
    by : (b : Bool) → b ≡ false → b ≡ true → ⊥
    by true e f = cc
    by false e f = cc

apart_from : (places : List ℕ) (e : Row × Row) (es : List (Row × Row)) → e.0 ≡ key_of places e.1 → AreKeyed places es → T (below_all key_order e.0 es) → Every (λ row. key_of places e.1 ≡ key_of places row → ⊥) (map (λ x. x.1) es)
apart_from places e [] is keyed h = tt
apart_from places e (x ∷ es) is keyed h = (
  λ same. not_less e.0 (subst (λ k. T (is_lt (key_order e.0 k))) (sym (is ∙ same ∙ sym keyed.0)) (first_of _ _ h)),
  apart_from places e es is keyed.1 (second_of _ _ h),
)

apart_in : (places : List ℕ) (es : List (Row × Row)) → AreKeyed places es → T (fm.is_sorted key_order es) → Pairs (λ a b. key_of places a ≡ key_of places b → ⊥) (map (λ e. e.1) es)
apart_in places [] keyed h = tt
apart_in places (e ∷ es) keyed h = (apart_from places e es keyed.0 keyed.1 (first_of _ _ h), apart_in places es keyed.1 (second_of _ _ h))

pub rows_apart : (places : List ℕ) (m : Table) → IsUnderKeys places m → Pairs (λ a b. key_of places a ≡ key_of places b → ⊥) (fm.values m)
rows_apart places m under = apart_in places (fm.entries m) (under_keys places (fm.entries m) (fm.entries_sorted m) (λ key row found. under key row (fm.get-entries m key ∙ found))) (fm.entries_sorted m)

-- each entry is found by its key

entry_in : (es : List (Row × Row)) → T (fm.is_sorted key_order es) → (i : ℕ) (e : Row × Row) → slice_get es i ≡ Some e → fm.find key_order e.0 es ≡ Some e.1
entry_in [] h i e at = cc
entry_in (x ∷ es) h zero e at = let same : x ≡ e = cc in subst (λ y. fm.find key_order y.0 (x ∷ es) ≡ Some y.1) same (found_first x es)
entry_in (x ∷ es) h (suc i) e at = found_further x es h e.0 e.1 (entry_in es (second_of _ _ h) i e at)

pub entries_under : (m : Table) (i : ℕ) (e : Row × Row) → slice_get (fm.entries m) i ≡ Some e → fm.get m e.0 ≡ Some e.1
entries_under m i e at = fm.get-entries m e.0 ∙ entry_in (fm.entries m) (fm.entries_sorted m) i e at
