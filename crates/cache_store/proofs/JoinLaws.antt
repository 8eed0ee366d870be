-- What is shown of more roots or of fewer.
use Rattle.std.proofs.Common.{◌≡◌, ℕ, zero, suc, Bool, true, false, ◌&&◌, ◌||◌, not, cond, Option, Some, None, is_some, List, [], ◌∷◌, length, refl, sym, ap, ◌∙◌, arith}
use Rattle.std.specs.Option.{option_or}
use Rattle.std.specs.Ordering.{is_eq}
use Rattle.std.specs.declared.cmp.Ordering.{Ordering}
use Rattle.std.specs.declared.cmp.Ordering.TheVariants.{Less, Equal, Greater}
use Rattle.std.specs.FinMap.{contains_key, empty, entries, find, get, get-empty, get-entries, get-insert, get-retain_keys, insert, same_map}
use Rattle.instances.specs.row_types.specs.declared.value.Value.{Value}
use Rattle.instances.specs.row_types.specs.Order.{key_order}
use Rattle.instances.specs.row_types.proofs.OrderLaws.{key_total, key_exact}
use Rattle.instances.specs.indexed_rows.specs.Rows.{Table, is_same, put_in}
use Rattle.instances.specs.table_state.specs.Tables.{TableState}
use Rattle.instances.specs.declared.tree.Tree.{Tree}
use Rattle.instances.specs.Roots.{root_at}
use Rattle.instances.specs.Views.{instance_of, kept_at, view_of}
use Rattle.cache_store.specs.Shown.{has_root, tables_with, tables_without, shown_of, with_rows}
use Rattle.cache_store.proofs.ShownLaws.{gets_chosen, shown_length, view_length, view_root}

abbrev Row : Type 0
Row = List Value

abbrev nothing : Table
nothing = empty

pub same_tables : (xs ys : List Table) → length xs ≡ length ys → ((i : ℕ) (key : Row) → get (kept_at xs i) key ≡ get (kept_at ys i) key) → xs ≡ ys
same_tables [] [] e h = refl
same_tables [] (y ∷ ys) e h = absurd (omega (arith, e))
same_tables (x ∷ xs) [] e h = absurd (omega (arith, e))
same_tables (x ∷ xs) (y ∷ ys) e h =
    let first : x ≡ y = same_map key_total key_exact x y (h 0) in
    let rest : xs ≡ ys = same_tables xs ys (omega (arith, e)) (λ i key. h (suc i) key) in
    λ i. first i ∷ rest i

pub or_none : (v : Option Row) → option_or v None ≡ v
or_none None = refl
or_none (Some x) = refl

pub get_put_in : (a : Table) (k row key : Row) → get (put_in a k row) key ≡ option_or (get a key) (cond (is_eq (key_order key k)) (Some row) None)
get_put_in a k row key = by (get a k) refl (key_order key k) refl
  where
    by : (o : Option Row) → get a k ≡ o → (t : Ordering) → key_order key k ≡ t → get (put_in a k row) key ≡ option_or (get a key) (cond (is_eq (key_order key k)) (Some row) None)
    by None is Less tie = ap (λ v. get (cond (is_some v) a (insert a k row)) key) is ∙ get-insert key_total a k row key ∙ ap (λ t. cond (is_eq t) (Some row) (get a key)) tie ∙ sym (ap (λ t. option_or (get a key) (cond (is_eq t) (Some row) None)) tie ∙ or_none (get a key))
    by None is Greater tie = ap (λ v. get (cond (is_some v) a (insert a k row)) key) is ∙ get-insert key_total a k row key ∙ ap (λ t. cond (is_eq t) (Some row) (get a key)) tie ∙ sym (ap (λ t. option_or (get a key) (cond (is_eq t) (Some row) None)) tie ∙ or_none (get a key))
    by None is Equal tie =
        let none : get a key ≡ None = ap (get a) (key_exact key k tie) ∙ is in
        ap (λ v. get (cond (is_some v) a (insert a k row)) key) is ∙ get-insert key_total a k row key ∙ ap (λ t. cond (is_eq t) (Some row) (get a key)) tie
        ∙ sym (ap (λ t. option_or (get a key) (cond (is_eq t) (Some row) None)) tie ∙ ap (λ v. option_or v (Some row)) none)
    by (Some r) is Less tie = ap (λ v. get (cond (is_some v) a (insert a k row)) key) is ∙ sym (ap (λ t. option_or (get a key) (cond (is_eq t) (Some row) None)) tie ∙ or_none (get a key))
    by (Some r) is Greater tie = ap (λ v. get (cond (is_some v) a (insert a k row)) key) is ∙ sym (ap (λ t. option_or (get a key) (cond (is_eq t) (Some row) None)) tie ∙ or_none (get a key))
    by (Some r) is Equal tie =
        let some : get a key ≡ Some r = ap (get a) (key_exact key k tie) ∙ is in
        ap (λ v. get (cond (is_some v) a (insert a k row)) key) is ∙ some ∙ sym (ap (λ v. option_or v (cond (is_eq (key_order key k)) (Some row) None)) some)

or_assoc : (u : Option Row) (b : Bool) (row : Row) (v : Option Row) → option_or (option_or u (cond b (Some row) None)) v ≡ option_or u (cond b (Some row) v)
or_assoc None true row v = refl
or_assoc None false row v = refl
or_assoc (Some x) b row v = refl

pub get_with_rows : (es : List (Row × Row)) (a : Table) (key : Row) → get (with_rows a es) key ≡ option_or (get a key) (find key_order key es)
get_with_rows [] a key = sym (or_none (get a key))
get_with_rows (e ∷ es) a key =
    get_with_rows es (put_in a e.0 e.1) key ∙ ap (λ v. option_or v (find key_order key es)) (get_put_in a e.0 e.1 key) ∙ or_assoc (get a key) (is_eq (key_order key e.0)) e.1 (find key_order key es)

pub get_joined : (ks bs : List Table) → length ks ≡ length bs → (i : ℕ) (key : Row) → get (kept_at (tables_with ks bs) i) key ≡ option_or (get (kept_at ks i) key) (get (kept_at bs i) key)
get_joined [] [] e i key = sym (ap (λ v. option_or v (get nothing key)) (get-empty key_order key))
get_joined [] (b ∷ bs) e i key = absurd (omega (arith, e))
get_joined (a ∷ ks) [] e i key = absurd (omega (arith, e))
get_joined (a ∷ ks) (b ∷ bs) e zero key = get_with_rows (entries b) a key ∙ ap (option_or (get a key)) (sym (get-entries b key))
get_joined (a ∷ ks) (b ∷ bs) e (suc i) key = get_joined ks bs (omega (arith, e)) i key

pub length_joined : (ks bs : List Table) → length ks ≡ length bs → length (tables_with ks bs) ≡ length ks
length_joined [] [] e = refl
length_joined [] (b ∷ bs) e = absurd (omega (arith, e))
length_joined (a ∷ ks) [] e = refl
length_joined (a ∷ ks) (b ∷ bs) e = ap suc (length_joined ks bs (omega (arith, e)))

pub get_less : (ks bs : List Table) → length ks ≡ length bs → (i : ℕ) (key : Row) → get (kept_at (tables_without ks bs) i) key ≡ cond (is_some (get (kept_at bs i) key)) None (get (kept_at ks i) key)
get_less [] [] e i key = ap (λ v. v) (get-empty key_order key) ∙ sym (ap (λ v. cond (is_some v) None v) (get-empty key_order key))
get_less [] (b ∷ bs) e i key = absurd (omega (arith, e))
get_less (a ∷ ks) [] e i key = absurd (omega (arith, e))
get_less (a ∷ ks) (b ∷ bs) e zero key =
    get-retain_keys a (λ k. not (contains_key b k)) key (λ x tie. ap (λ k. not (contains_key b k)) (sym (key_exact key x tie))) ∙ turned (is_some (get b key)) (get a key)
  where
    turned : (b : Bool) (v : Option Row) → cond (not b) v None ≡ cond b None v
    turned true v = refl
    turned false v = refl
get_less (a ∷ ks) (b ∷ bs) e (suc i) key = get_less ks bs (omega (arith, e)) i key

pub length_less : (ks bs : List Table) → length ks ≡ length bs → length (tables_without ks bs) ≡ length ks
length_less [] [] e = refl
length_less [] (b ∷ bs) e = absurd (omega (arith, e))
length_less (a ∷ ks) [] e = refl
length_less (a ∷ ks) (b ∷ bs) e = ap suc (length_less ks bs (omega (arith, e)))

module _ (s : TableState) (tree : Tree) where
  pub shown_all : shown_of s tree (λ k. true) ≡ view_of s tree
  shown_all = same_tables (shown_of s tree (λ k. true)) (view_of s tree) (shown_length s tree (λ k. true) ∙ sym (view_length s tree))
      (λ i key. gets_chosen s tree (λ k. true) i key ∙ every i key (get (kept_at (view_of s tree) i) key) refl)
    where
      every : (i : ℕ) (key : Row) (v : Option Row) → get (kept_at (view_of s tree) i) key ≡ v → cond (has_root (λ k. true) (root_at s tree i key)) (get (kept_at (view_of s tree) i) key) None ≡ get (kept_at (view_of s tree) i) key
      every i key None is = ap (λ v. cond (has_root (λ k. true) (root_at s tree i key)) v None) is ∙ none (has_root (λ k. true) (root_at s tree i key)) ∙ sym is
        where
          none : (b : Bool) → ◌≡◌ {A = Option Row} (cond b None None) None
          none true = refl
          none false = refl
      every i key (Some row) is = let r = view_root s tree i key row is in ap (λ o. cond (has_root (λ k. true) o) (get (kept_at (view_of s tree) i) key) None) r.1

  either : (p q : Row → Bool) (r : Option Row) (v : Option Row) → option_or (cond (has_root p r) v None) (cond (has_root q r) v None) ≡ cond (has_root (λ k. p k || q k) r) v None
  either p q None v = refl
  either p q (Some x) v = by (p x) (q x) v
    where
      by : (a b : Bool) (v : Option Row) → option_or (cond a v None) (cond b v None) ≡ cond (a || b) v None
      by true true None = refl
      by true true (Some x) = refl
      by true false None = refl
      by true false (Some x) = refl
      by false b v = refl

  one_not : (p q : Row → Bool) (r : Option Row) (v : Option Row) → cond (is_some (cond (has_root q r) v None)) None (cond (has_root p r) v None) ≡ cond (has_root (λ k. p k && not (q k)) r) v None
  one_not p q None v = refl
  one_not p q (Some x) v = by (p x) (q x) v
    where
      by : (a b : Bool) (v : Option Row) → cond (is_some (cond b v None)) None (cond a v None) ≡ cond (a && not b) v None
      by true true None = refl
      by true true (Some x) = refl
      by true false v = refl
      by false true None = refl
      by false true (Some x) = refl
      by false false v = refl

  pub put_shown : (p : Row → Bool) (root : Row) → tables_with (shown_of s tree p) (instance_of s tree root) ≡ shown_of s tree (λ k. p k || is_same k root)
  put_shown p root =
      let q : Row → Bool = λ k. is_same k root in
      let long : length (shown_of s tree p) ≡ length (shown_of s tree q) = shown_length s tree p ∙ sym (shown_length s tree q) in
      same_tables (tables_with (shown_of s tree p) (instance_of s tree root)) (shown_of s tree (λ k. p k || q k)) (length_joined (shown_of s tree p) (shown_of s tree q) long ∙ shown_length s tree p ∙ sym (shown_length s tree (λ k. p k || q k)))
      (λ i key. get_joined (shown_of s tree p) (shown_of s tree q) long i key
      ∙ ap (λ v. option_or v (get (kept_at (shown_of s tree q) i) key)) (gets_chosen s tree p i key) ∙ ap (option_or (cond (has_root p (root_at s tree i key)) (get (kept_at (view_of s tree) i) key) None)) (gets_chosen s tree q i key)
      ∙ either p q (root_at s tree i key) (get (kept_at (view_of s tree) i) key) ∙ sym (gets_chosen s tree (λ k. p k || q k) i key))

  pub drop_shown : (p : Row → Bool) (root : Row) → tables_without (shown_of s tree p) (instance_of s tree root) ≡ shown_of s tree (λ k. p k && not (is_same k root))
  drop_shown p root =
      let q : Row → Bool = λ k. is_same k root in
      let long : length (shown_of s tree p) ≡ length (shown_of s tree q) = shown_length s tree p ∙ sym (shown_length s tree q) in
      same_tables (tables_without (shown_of s tree p) (instance_of s tree root)) (shown_of s tree (λ k. p k && not (q k))) (length_less (shown_of s tree p) (shown_of s tree q) long ∙ shown_length s tree p ∙ sym (shown_length s tree (λ k. p k && not (q k))))
      (λ i key. get_less (shown_of s tree p) (shown_of s tree q) long i key
      ∙ ap (λ v. cond (is_some (get (kept_at (shown_of s tree q) i) key)) None v) (gets_chosen s tree p i key) ∙ ap (λ v. cond (is_some v) None (cond (has_root p (root_at s tree i key)) (get (kept_at (view_of s tree) i) key) None)) (gets_chosen s tree q i key)
      ∙ one_not p q (root_at s tree i key) (get (kept_at (view_of s tree) i) key) ∙ sym (gets_chosen s tree (λ k. p k && not (q k)) i key))
