-- Laws of rows that are put together one by one.
use Rattle.std.proofs.Common.{◌≡◌, ℕ, zero, suc, ◌+◌, ◌<◌, ◌≤◌, Bool, true, false, cond, ◌&&◌, T, Option, Some, None, is_some, List, [], ◌∷◌, length, slice_get, refl, sym, ap, subst, ◌∙◌, arith}
use Rattle.std.specs.Ordering.{eq_by_cmp, is_eq, is_lt}
use Rattle.std.specs.declared.cmp.Ordering.{Ordering}
use Rattle.std.specs.declared.cmp.Ordering.TheVariants.{Less, Equal, Greater}
use Rattle.std.specs.Cmp.{eq_by_cmp_equiv}
use Rattle.std.specs.FinMap.Entries.{below_all}
use Rattle.std.specs.FinMap.{contains_key, empty, entries, entries_sorted, find, get, insert, is_sorted, len, len-entries, get-empty, get-entries, get-insert, get-retain_keys, same_map}
use borrow.Author.Count.{below_more}
use Rattle.expressions.specs.row_types.specs.declared.value.Value.{Value}
use Rattle.expressions.specs.row_types.specs.Order.{key_order}
use Rattle.expressions.specs.row_types.proofs.OrderLaws.{key_total, key_exact}
use Rattle.table_state.specs.indexed_rows.specs.Rows.{Table}
use Rattle.instances.specs.Collecting.{Gathers, added}
use Rattle.instances.specs.Views.{passes, rows_where}

abbrev Row : Type 0
Row = List Value

abbrev Entries : Type 0
Entries = List (Row × Row)

pub get_where : (test : Row → Bool) (table : Table) (q : Row) → get (rows_where test table) q ≡ cond (passes test (get table q)) (get table q) None
get_where test table q = get-retain_keys table (λ key. passes test (get table key)) q (λ x tie. ap (λ key. passes test (get table key)) (sym (key_exact q x tie)))

-- where a row is found
record IsAt (q row : Row) (es : Entries) : Type 0 where
  place : ℕ
  within : place < length es
  at : slice_get es place ≡ Some (q, row)

later : (q row : Row) (e : Row × Row) (es : Entries) → IsAt q row es → IsAt q row (e ∷ es)
later q row e es p = let within : p.place < length es = p.within in record { place = suc p.place; within = omega arith; at = p.at }

found_at : (q : Row) (es : Entries) (row : Row) → find key_order q es ≡ Some row → IsAt q row es
found_at q [] row is = cc
found_at q (e ∷ es) row is = by (key_order q e.0) refl (found_at q es row) is
  where
    by : (o : Ordering) → key_order q e.0 ≡ o → (find key_order q es ≡ Some row → IsAt q row es) → cond (is_eq o) (Some e.1) (find key_order q es) ≡ Some row → IsAt q row (e ∷ es)
    by Less tie further h = later q row e es (further h)
    by Greater tie further h = later q row e es (further h)
    by Equal tie further h =
        let same : e.1 ≡ row = cc in
        let first : 0 < length (e ∷ es) = omega arith in
        let here : Some e ≡ Some (q, row) = ap (λ x. Some (x, e.1)) (sym (key_exact q e.0 tie)) ∙ ap (λ y. Some (q, y)) same in
        record { place = 0; within = first; at = here }

less_is_not_equal : (o : Ordering) → T (is_lt o) → is_eq o ≡ false
less_is_not_equal Less h = refl
less_is_not_equal Equal h = absurd h
less_is_not_equal Greater h = absurd h

left_of : (a b : Bool) → T (a && b) → T a
left_of true b h = tt
left_of false b h = h

right_of : (a b : Bool) → T (a && b) → T b
right_of true b h = h
right_of false b h = absurd h

not_found : (q : Row) (es : Entries) → T (below_all key_order q es) → find key_order q es ≡ None
not_found q [] h = refl
not_found q (e ∷ es) h =
    let other : eq_by_cmp key_order q e.0 ≡ false = less_is_not_equal (key_order q e.0) (left_of _ _ h) in
    rw other (not_found q es (right_of _ _ h))

-- an entry at a place is found by its key
found_there : (es : Entries) → T (is_sorted key_order es) → (i : ℕ) (e : Row × Row) → slice_get es i ≡ Some e → find key_order e.0 es ≡ Some e.1
found_there [] h i e at = cc
found_there (x ∷ es) h zero e at =
    let same : x ≡ e = cc in
    let here : find key_order x.0 (x ∷ es) ≡ Some x.1 = ap (λ b. cond b (Some x.1) (find key_order x.0 es)) ((eq_by_cmp_equiv key_total).refl x.0) in
    subst (λ (y : Row × Row). find key_order y.0 (x ∷ es) ≡ Some y.1) same here
found_there (x ∷ es) h (suc i) e at = by (key_order e.0 x.0) refl (found_there es (right_of _ _ h) i e at)
  where
    by : (o : Ordering) → key_order e.0 x.0 ≡ o → find key_order e.0 es ≡ Some e.1 → cond (is_eq o) (Some x.1) (find key_order e.0 es) ≡ Some e.1
    by Less tie found = found
    by Greater tie found = found
    by Equal tie found =
        let gone : find key_order e.0 es ≡ None = not_found e.0 es (subst (λ k. T (below_all key_order k es)) (sym (key_exact e.0 x.0 tie)) (left_of _ _ h)) in
        cc

pub entry_found : (m : Table) (i : ℕ) (e : Row × Row) → slice_get (entries m) i ≡ Some e → get m e.0 ≡ Some e.1
entry_found m i e at = get-entries m e.0 ∙ found_there (entries m) (entries_sorted m) i e at

module _ (out : Table) (k row : Row) where
  pub added_has : contains_key (added out k row) k ≡ true
  added_has = by (contains_key out k) refl
    where
      by : (b : Bool) → contains_key out k ≡ b → contains_key (cond b out (insert out k row)) k ≡ true
      by true is = is
      by false is = ap is_some (get-insert key_total out k row k ∙ ap (λ b. cond b (Some row) (get out k)) ((eq_by_cmp_equiv key_total).refl k))

  pub added_keeps : (q : Row) → contains_key out q ≡ true → contains_key (added out k row) q ≡ true
  added_keeps q has = by (contains_key out k)
    where
      at : (o : Ordering) → is_some (cond (is_eq o) (Some row) (get out q)) ≡ true
      at Less = has
      at Equal = refl
      at Greater = has

      by : (b : Bool) → contains_key (cond b out (insert out k row)) q ≡ true
      by true = has
      by false = ap is_some (get-insert key_total out k row q) ∙ at (key_order q k)

  -- what holds of each row before and of this one holds of each row
  pub added_all : (P : Row → Row → Type 0) → ((q r : Row) → get out q ≡ Some r → P q r) → P k row → (q r : Row) → get (added out k row) q ≡ Some r → P q r
  added_all P all here q r e = by (contains_key out k) e
    where
      at : (o : Ordering) → key_order q k ≡ o → cond (is_eq o) (Some row) (get out q) ≡ Some r → P q r
      at Less tie h = all q r h
      at Greater tie h = all q r h
      at Equal tie h = let same : row ≡ r = cc in subst (λ x. P x r) (sym (key_exact q k tie)) (subst (λ y. P k y) same here)

      by : (b : Bool) → get (cond b out (insert out k row)) q ≡ Some r → P q r
      by true h = all q r h
      by false h = at (key_order q k) refl (sym (get-insert key_total out k row q) ∙ h)

module _ (test : Row → Bool) (table : Table) where
  pub gathers_none : (out : Table) → out ≡ empty → Gathers test table 0 out
  gathers_none out is = record {
    sound = λ key row e. let none : get out key ≡ None = ap (λ m. get m key) is ∙ get-empty key_order key in cc;
    whole = λ i lt key row at good. absurd (omega arith);
  }

  module _ (n : ℕ) (out : Table) (g : Gathers test table n out) where
    module _ (e : Row × Row) (at : slice_get (entries table) n ≡ Some e) where
      pub gathers_more : (new : Table) → test e.1 ≡ true → new ≡ added out e.0 e.1 → Gathers test table (n + 1) new
      gathers_more new good is = subst (Gathers test table (n + 1)) (sym is) (record {
        sound = added_all out e.0 e.1 (λ q r. (get table q ≡ Some r) × (test r ≡ true)) g.sound (entry_found table n e at, good);
        whole = below_more Has n (λ i lt key row there passed. added_keeps out e.0 e.1 key (g.whole i lt key row there passed)) here;
      })
        where
          Has : ℕ → Type 0
          Has i = (key row : Row) → slice_get (entries table) i ≡ Some (key, row) → test row ≡ true → contains_key (added out e.0 e.1) key ≡ true

          here : Has n
          here key row there passed = let same : e ≡ (key, row) = cc in subst (λ (x : Row × Row). contains_key (added out e.0 e.1) x.0 ≡ true) same (added_has out e.0 e.1)

      pub gathers_skip : (new : Table) → test e.1 ≡ false → new ≡ out → Gathers test table (n + 1) new
      gathers_skip new bad is = subst (Gathers test table (n + 1)) (sym is) (record {
        sound = g.sound;
        whole = below_more (λ i. (key row : Row) → slice_get (entries table) i ≡ Some (key, row) → test row ≡ true → contains_key out key ≡ true) n g.whole (λ key row there passed.
            let same : e ≡ (key, row) = cc in let failed : test row ≡ false = subst (λ (x : Row × Row). test x.1 ≡ false) same bad in cc);
      })

    pub gathers_all : (end : ℕ) → end ≡ len table → end ≤ n → out ≡ rows_where test table
    gathers_all end is past = same_map key_total key_exact out (rows_where test table) (λ q. same q (get table q) refl (get out q) refl ∙ sym (get_where test table q))
      where
        tested : (q r : Row) → get table q ≡ Some r → (b : Bool) → test r ≡ b → (o : Option Row) → get out q ≡ o → o ≡ cond b (Some r) None
        tested q r there false bad None e = refl
        tested q r there false bad (Some row) e =
            let w = g.sound q row e in
            let a : get table q ≡ Some row = w.0 in
            let same : row ≡ r = cc in
            let good : test r ≡ true = sym (ap test same) ∙ w.1 in
            cc
        tested q r there true good None e =
            let p : IsAt q r (entries table) = found_at q (entries table) r (sym (get-entries table q) ∙ there) in
            let within : p.place < length (entries table) = p.within in
            let below : p.place < n = omega (arith, len-entries table) in
            let has : contains_key out q ≡ true = g.whole p.place below q r p.at good in
            let hasnt : contains_key out q ≡ false = ap is_some e in
            cc
        tested q r there true good (Some row) e =
            let a : get table q ≡ Some row = (g.sound q row e).0 in
            let same : row ≡ r = cc in
            ap Some same

        same : (q : Row) (t : Option Row) → get table q ≡ t → (o : Option Row) → get out q ≡ o → o ≡ cond (passes test t) t None
        same q None there None e = refl
        same q None there (Some row) e = let a : get table q ≡ Some row = (g.sound q row e).0 in cc
        same q (Some r) there o e = tested q r there (test r) refl o e
