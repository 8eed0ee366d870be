-- Rows that are chosen from a table, one by one.
use Rattle.std.proofs.Common.{◌≡◌, ℕ, zero, suc, ◌+◌, ◌<◌, ◌≤◌, Bool, true, false, cond, ◌||◌, T, Option, Some, None, is_some, List, [], ◌∷◌, ◌++◌, length, map, take, filter, slice_get, get_or, unwrap_or, refl, sym, ap, subst, ◌∙◌, arith}
use Rattle.std.proofs.lemmas.List.{length-map}
use Rattle.std.specs.List.{list_any}
use Rattle.std.specs.Ordering.{is_eq}
use Rattle.std.specs.declared.cmp.Ordering.{Ordering}
use Rattle.std.specs.declared.cmp.Ordering.TheVariants.{Less, Equal, Greater}
use Rattle.std.specs.FinMap.Entries.{find-where_key, is_sorted-where_key, where_key}
use Rattle.std.specs.FinMap.{contains_key, empty, entries, entries-from_sorted, entries_sorted, find, from_sorted, get, get-empty, get-entries, get-from_sorted, get-retain_keys, is_sorted, len, len-empty, len-entries, retain_keys, same_map, values}
use borrow.Author.Count.{below_more}
use Rattle.row_types.specs.declared.value.Value.{Value}
use Rattle.row_types.specs.Order.{key_order}
use Rattle.row_types.proofs.OrderLaws.{key_total, key_exact}
use Rattle.indexed_rows.specs.Rows.{Table}
use Rattle.instances.specs.Collecting.{added}
use Rattle.instances.specs.Views.{passes}
use Rattle.instances.proofs.Gathering.{added_all, added_has, added_keeps, entry_found}
use Rattle.stored_tier.specs.Choosing.{Chooses, chosen}

abbrev Row : Type 0
Row = List Value

abbrev Entries : Type 0
Entries = List (Row × Row)

abbrev Test : Type 0
Test = Row → Row → Bool

pub get_chosen : (test : Test) (table : Table) (q : Row) → get (chosen test table) q ≡ cond (passes (test q) (get table q)) (get table q) None
get_chosen test table q = get-retain_keys table (λ key. passes (test key) (get table key)) q (λ x tie. ap (λ key. passes (test key) (get table key)) (sym (key_exact q x tie)))

-- where a row is found
record IsAt (q row : Row) (es : Entries) : Type 0 where
  place : ℕ
  within : place < length es
  at : slice_get es place ≡ Some (q, row)

later : (q row : Row) (e : Row × Row) (es : Entries) → IsAt q row es → IsAt q row (e ∷ es)
later q row e es p = let within : p.place < length es = p.within in record { place = suc p.place; within = omega arith; at = p.at }

found_at : (q : Row) (es : Entries) (row : Row) → find key_order q es ≡ Some row → IsAt q row es
found_at q [] row is = cc
found_at q (e ∷ es) row is = by (key_order q e.0) refl (found_at q es row) is
  where
    by : (o : Ordering) → key_order q e.0 ≡ o → (find key_order q es ≡ Some row → IsAt q row es) → cond (is_eq o) (Some e.1) (find key_order q es) ≡ Some row → IsAt q row (e ∷ es)
    by Less tie further h = later q row e es (further h)
    by Greater tie further h = later q row e es (further h)
    by Equal tie further h =
        let same : e.1 ≡ row = cc in
        let first : 0 < length (e ∷ es) = omega arith in
        let here : Some e ≡ Some (q, row) = ap (λ x. Some (x, e.1)) (sym (key_exact q e.0 tie)) ∙ ap (λ y. Some (q, y)) same in
        record { place = 0; within = first; at = here }

module _ (test : Test) (table : Table) where
  pub chooses_none : (out : Table) → out ≡ empty → Chooses test table 0 out
  chooses_none out is = record {
    sound = λ key row e. let none : get out key ≡ None = ap (λ m. get m key) is ∙ get-empty key_order key in cc;
    whole = λ i lt key row at good. absurd (omega arith);
  }

  module _ (n : ℕ) (out : Table) (g : Chooses test table n out) where
    module _ (e : Row × Row) (at : slice_get (entries table) n ≡ Some e) where
      pub chooses_more : (new : Table) → test e.0 e.1 ≡ true → new ≡ added out e.0 e.1 → Chooses test table (n + 1) new
      chooses_more new good is = subst (Chooses test table (n + 1)) (sym is) (record {
        sound = added_all out e.0 e.1 (λ q r. (get table q ≡ Some r) × (test q r ≡ true)) g.sound (entry_found table n e at, good);
        whole = below_more Has n (λ i lt key row there passed. added_keeps out e.0 e.1 key (g.whole i lt key row there passed)) here;
      })
        where
          Has : ℕ → Type 0
          Has i = (key row : Row) → slice_get (entries table) i ≡ Some (key, row) → test key row ≡ true → contains_key (added out e.0 e.1) key ≡ true

          here : Has n
          here key row there passed = let same : e ≡ (key, row) = cc in subst (λ (x : Row × Row). contains_key (added out e.0 e.1) x.0 ≡ true) same (added_has out e.0 e.1)

      pub chooses_skip : (new : Table) → test e.0 e.1 ≡ false → new ≡ out → Chooses test table (n + 1) new
      chooses_skip new bad is = subst (Chooses test table (n + 1)) (sym is) (record {
        sound = g.sound;
        whole = below_more (λ i. (key row : Row) → slice_get (entries table) i ≡ Some (key, row) → test key row ≡ true → contains_key out key ≡ true) n g.whole (λ key row there passed.
            let same : e ≡ (key, row) = cc in let failed : test key row ≡ false = subst (λ (x : Row × Row). test x.0 x.1 ≡ false) same bad in cc);
      })

    pub chooses_all : (end : ℕ) → end ≡ len table → end ≤ n → out ≡ chosen test table
    chooses_all end is past = same_map key_total key_exact out (chosen test table) (λ q. same q (get table q) refl (get out q) refl ∙ sym (get_chosen test table q))
      where
        tested : (q r : Row) → get table q ≡ Some r → (b : Bool) → test q r ≡ b → (o : Option Row) → get out q ≡ o → o ≡ cond b (Some r) None
        tested q r there false bad None e = refl
        tested q r there false bad (Some row) e =
            let w = g.sound q row e in
            let a : get table q ≡ Some row = w.0 in
            let same : row ≡ r = cc in
            let good : test q r ≡ true = sym (ap (test q) same) ∙ w.1 in
            cc
        tested q r there true good None e =
            let p : IsAt q r (entries table) = found_at q (entries table) r (sym (get-entries table q) ∙ there) in
            let within : p.place < length (entries table) = p.within in
            let below : p.place < n = omega (arith, len-entries table) in
            let has : contains_key out q ≡ true = g.whole p.place below q r p.at good in
            let hasnt : contains_key out q ≡ false = ap is_some e in
            cc
        tested q r there true good (Some row) e =
            let a : get table q ≡ Some row = (g.sound q row e).0 in
            let same : row ≡ r = cc in
            ap Some same

        same : (q : Row) (t : Option Row) → get table q ≡ t → (o : Option Row) → get out q ≡ o → o ≡ cond (passes (test q) t) t None
        same q None there None e = refl
        same q None there (Some row) e = let a : get table q ≡ Some row = (g.sound q row e).0 in cc
        same q (Some r) there o e = tested q r there (test q r) refl o e

-- a table without rows
pub chosen_none : (test : Test) → chosen test empty ≡ empty
chosen_none test = same_map key_total key_exact (chosen test empty) empty (λ q. get_chosen test empty q ∙ ap (λ (o : Option Row). cond (passes (test q) o) o None) (get-empty key_order q) ∙ sym (get-empty key_order q))

-- the entries that are kept

pub entries_kept : (m : Table) (p : Row → Bool) → entries (retain_keys m p) ≡ where_key key_order p (entries m)
entries_kept m p =
    let es : Entries = where_key key_order p (entries m) in
    let sorted : T (is_sorted key_order es) = is_sorted-where_key key_order p (entries m) (entries_sorted m) in
    let alike : (q x : Row) → key_order q x ≡ Equal → p x ≡ p q = λ q x tie. ap p (sym (key_exact q x tie)) in
    ap entries (same_map key_total key_exact (retain_keys m p) (from_sorted es) (λ q.
    get-retain_keys m p q (alike q) ∙ ap (λ o. cond (p q) o None) (get-entries m q)
    ∙ sym (get-from_sorted key_order es q sorted ∙ find-where_key key_order p q (alike q) (entries m))))
    ∙ entries-from_sorted key_order es sorted

filter_alike : {A : Type 0} (p q : A → Bool) (xs : List A) → ((i : ℕ) (x : A) → slice_get xs i ≡ Some x → p x ≡ q x) → filter p xs ≡ filter q xs
filter_alike p q [] same = refl
filter_alike p q (x ∷ xs) same =
    ap (λ b. cond b (x ∷ filter p xs) (filter p xs)) (same 0 x refl)
    ∙ ap (λ ys. cond (q x) (x ∷ ys) ys) (filter_alike p q xs (λ i y at. same (suc i) y at))

-- how many are chosen

pub count_chosen : (test : Test) (table : Table) → len (chosen test table) ≡ length (filter (λ (e : Row × Row). test e.0 e.1) (entries table))
count_chosen test table =
    len-entries (chosen test table)
    ∙ ap length (entries_kept table (λ key. passes (test key) (get table key)))
    ∙ ap length (filter_alike (λ (e : Row × Row). passes (test e.0) (get table e.0)) (λ e. test e.0 e.1) (entries table) (λ i e at. ap (passes (test e.0)) (entry_found table i e at)))

-- one entry more

take_one : {A : Type 0} (xs : List A) (n : ℕ) (x : A) → slice_get xs n ≡ Some x → take (n + 1) xs ≡ take n xs ++ x ∷ []
take_one [] n x at = cc
take_one (y ∷ ys) zero x at = let same : y ≡ x = cc in let one : zero + 1 ≡ 1 = omega arith in ap (λ k. take k (y ∷ ys)) one ∙ ap (λ z. z ∷ []) same
take_one (y ∷ ys) (suc n) x at = let step : suc n + 1 ≡ suc (n + 1) = omega arith in ap (λ k. take k (y ∷ ys)) step ∙ ap (λ zs. y ∷ zs) (take_one ys n x at)

filter_end : {A : Type 0} (p : A → Bool) (xs : List A) (x : A) → length (filter p (xs ++ x ∷ [])) ≡ length (filter p xs) + cond (p x) 1 0
filter_end p [] x = by (p x)
  where
    by : (b : Bool) → length (cond b (x ∷ []) []) ≡ 0 + cond b 1 0
    by true = refl
    by false = refl
filter_end p (y ∷ ys) x = by (p y) (filter_end p ys x)
  where
    by : (b : Bool) → length (filter p (ys ++ x ∷ [])) ≡ length (filter p ys) + cond (p x) 1 0 → length (cond b (y ∷ filter p (ys ++ x ∷ [])) (filter p (ys ++ x ∷ []))) ≡ length (cond b (y ∷ filter p ys) (filter p ys)) + cond (p x) 1 0
    by true e = let at : length (filter p (ys ++ x ∷ [])) ≡ length (filter p ys) + cond (p x) 1 0 = e in omega (arith, at)
    by false e = e

pub counts_more : {A : Type 0} (p : A → Bool) (xs : List A) (n count : ℕ) (x : A) → slice_get xs n ≡ Some x → count ≡ length (filter p (take n xs)) → p x ≡ true → count + 1 ≡ length (filter p (take (n + 1) xs))
counts_more p xs n count x at so good = ap (λ k. k + 1) so ∙ sym (ap (λ ys. length (filter p ys)) (take_one xs n x at) ∙ filter_end p (take n xs) x ∙ ap (λ b. length (filter p (take n xs)) + cond b 1 0) good)

pub counts_skip : {A : Type 0} (p : A → Bool) (xs : List A) (n count : ℕ) (x : A) → slice_get xs n ≡ Some x → count ≡ length (filter p (take n xs)) → p x ≡ false → count ≡ length (filter p (take (n + 1) xs))
counts_skip p xs n count x at so bad =
    let none : length (filter p (take n xs)) + 0 ≡ length (filter p (take n xs)) = omega arith in
    so ∙ sym (ap (λ ys. length (filter p ys)) (take_one xs n x at) ∙ filter_end p (take n xs) x ∙ ap (λ b. length (filter p (take n xs)) + cond b 1 0) bad ∙ none)

take_whole : {A : Type 0} (xs : List A) (n : ℕ) → length xs ≤ n → take n xs ≡ xs
take_whole [] zero le = refl
take_whole [] (suc n) le = refl
take_whole (x ∷ xs) zero le = absurd (omega (arith, le))
take_whole (x ∷ xs) (suc n) le = ap (λ ys. x ∷ ys) (take_whole xs n (omega (arith, le)))

pub counts_all : (test : Test) (table : Table) (n end count : ℕ) → count ≡ length (filter (λ (e : Row × Row). test e.0 e.1) (take n (entries table))) → end ≡ len table → end ≤ n → count ≡ len (chosen test table)
counts_all test table n end count so is past =
    let long : length (entries table) ≤ n = omega (arith, len-entries table) in
    so ∙ ap (λ es. length (filter (λ (e : Row × Row). test e.0 e.1) es)) (take_whole (entries table) n long) ∙ sym (count_chosen test table)

pub few_counted : {A : Type 0} (p : A → Bool) (xs : List A) (n : ℕ) → length (filter p (take n xs)) ≤ n
few_counted p [] zero = omega arith
few_counted p [] (suc n) = omega arith
few_counted p (x ∷ xs) zero = omega arith
few_counted p (x ∷ xs) (suc n) = by (p x) (few_counted p xs n)
  where
    by : (b : Bool) → length (filter p (take n xs)) ≤ n → length (cond b (x ∷ filter p (take n xs)) (filter p (take n xs))) ≤ suc n
    by true le = omega (arith, le)
    by false le = omega (arith, le)

-- none so far is such

any_end : {A : Type 0} (p : A → Bool) (xs : List A) (x : A) → list_any p xs ≡ false → p x ≡ false → list_any p (xs ++ x ∷ []) ≡ false
any_end p [] x none bad = ap (λ b. b || false) bad
any_end p (y ∷ ys) x none bad = by (p y) none (any_end p ys x)
  where
    by : (b : Bool) → (b || list_any p ys) ≡ false → (list_any p ys ≡ false → p x ≡ false → list_any p (ys ++ x ∷ []) ≡ false) → (b || list_any p (ys ++ x ∷ [])) ≡ false
    by true none rest = cc
    by false none rest = rest none bad

pub none_more : {A : Type 0} (p : A → Bool) (xs : List A) (n : ℕ) (x : A) → slice_get xs n ≡ Some x → list_any p (take n xs) ≡ false → p x ≡ false → list_any p (take (n + 1) xs) ≡ false
none_more p xs n x at none bad = ap (list_any p) (take_one xs n x at) ∙ any_end p (take n xs) x none bad

pub none_at_all : {A : Type 0} (p : A → Bool) (xs : List A) (n end : ℕ) → list_any p (take n xs) ≡ false → end ≡ length xs → end ≤ n → list_any p xs ≡ false
none_at_all p xs n end none is past = let long : length xs ≤ n = omega (arith, is) in sym (ap (list_any p) (take_whole xs n long)) ∙ none

pub some_there : {A : Type 0} (p : A → Bool) (xs : List A) (n : ℕ) (x : A) → slice_get xs n ≡ Some x → p x ≡ true → list_any p xs ≡ true
some_there p [] n x at good = cc
some_there p (y ∷ ys) zero x at good = let same : y ≡ x = cc in ap (λ b. b || list_any p ys) (ap p same ∙ good)
some_there p (y ∷ ys) (suc n) x at good = by (p y) (some_there p ys n x at good)
  where
    by : (b : Bool) → list_any p ys ≡ true → (b || list_any p ys) ≡ true
    by true rest = refl
    by false rest = rest

-- no rows

no_length : (es : Entries) → length es ≡ 0 → es ≡ []
no_length [] e = refl
no_length (x ∷ es) e = absurd (omega (arith, e))

entries_none : entries (empty {X = Row} {R = key_order}) ≡ []
entries_none = no_length (entries empty) (sym (len-entries empty) ∙ len-empty key_order Row)

pub any_none : (p : Row → Bool) → list_any p (values (empty {X = Row} {R = key_order})) ≡ false
any_none p = ap (λ (es : Entries). list_any p (map (λ e. e.1) es)) entries_none

pub table_none : (ts : List Table) (i : ℕ) → None ≡ slice_get ts i → unwrap_or (slice_get ts i) empty ≡ empty
table_none ts i e = ap (λ (o : Option Table). unwrap_or o empty) (sym e)

pub none_chosen : (test : Test) (ts : List Table) (i : ℕ) → None ≡ slice_get ts i → chosen test (unwrap_or (slice_get ts i) empty) ≡ empty
none_chosen test ts i e = ap (chosen test) (table_none ts i e) ∙ chosen_none test

pub took_more : {A : Type 0} (xs done : List A) (n : ℕ) (x : A) → slice_get xs n ≡ Some x → done ≡ take n xs → done ++ x ∷ [] ≡ take (n + 1) xs
took_more xs done n x at so = ap (λ ys. ys ++ x ∷ []) so ∙ sym (take_one xs n x at)

pub took_all : {A : Type 0} (xs done : List A) (n end : ℕ) → done ≡ take n xs → end ≡ length xs → end ≤ n → done ≡ xs
took_all xs done n end so is past = let long : length xs ≤ n = omega (arith, is) in so ∙ take_whole xs n long

pub values_long : (m : Table) → length (values m) ≡ len m
values_long m = length-map (entries m) (λ e. e.1) ∙ sym (len-entries m)

-- lists of what stands so far

item_at : {A : Type 0} (xs : List A) (i : ℕ) (d : A) → i < length xs → slice_get xs i ≡ Some (get_or xs i d)
item_at [] i d h = absurd (omega arith)
item_at (x ∷ xs) zero d h = refl
item_at (x ∷ xs) (suc i) d h = item_at xs i d (omega arith)

map_end : {A B : Type 0} (f : A → B) (xs : List A) (x : A) → map f (xs ++ x ∷ []) ≡ map f xs ++ f x ∷ []
map_end f [] x = refl
map_end f (y ∷ ys) x = ap (λ zs. f y ∷ zs) (map_end f ys x)

pub mapped_more : {A B : Type 0} (f : A → B) (xs : List A) (done : List B) (n : ℕ) (x : A) → n < length xs → x ≡ get_or xs n x → done ≡ map f (take n xs) → done ++ f x ∷ [] ≡ map f (take (n + 1) xs)
mapped_more f xs done n x lt is so =
    let at : slice_get xs n ≡ Some x = item_at xs n x lt ∙ ap Some (sym is) in
    ap (λ ys. ys ++ f x ∷ []) so ∙ sym (ap (map f) (take_one xs n x at) ∙ map_end f (take n xs) x)

pub mapped_all : {A B : Type 0} (f : A → B) (xs : List A) (done : List B) (n : ℕ) → done ≡ map f (take n xs) → length xs ≤ n → done ≡ map f xs
mapped_all f xs done n so past = so ∙ ap (map f) (take_whole xs n past)
