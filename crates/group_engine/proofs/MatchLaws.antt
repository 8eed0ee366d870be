-- Which instances match, come, and are shown then.
use Rattle.std.proofs.Common.{◌≡◌, ℕ, suc, Bool, true, false, not, cond, ◌&&◌, ◌||◌, Option, Some, None, is_some, List, [], ◌∷◌, ◌++◌, length, map, filter, slice_get, refl, sym, ap, ◌∙◌, arith}
use Rattle.std.specs.FinMap as fm
use Rattle.row_types.specs.declared.value.Value.{Value}
use Rattle.row_types.proofs.OrderLaws.{key_exact, key_total}
use Rattle.indexed_rows.specs.Rows.{Table}
use Rattle.table_state.specs.Tables.{TableState, table_at}
use Rattle.evaluator.specs.Writes.{selects as selects_row}
use Rattle.instances.specs.declared.tree.Child.{Child}
use Rattle.instances.specs.declared.tree.Tree.{Tree}
use Rattle.instances.specs.Views.{child_rows, is_true, kept_at, passes, refers_to_one, root_rows, rows_where, selects, with_children}
use Rattle.instances.proofs.Gathering.{entry_found, get_where}
use Rattle.cache_store.specs.Shown.{shown_of}
use Rattle.group_catalog.specs.declared.which.ResolvedWhich.{ResolvedWhich}
use Rattle.group_store.specs.Stores.{Kept}
use Rattle.cache_tier.specs.Conditions.{is_id, matches}
use Rattle.cache_tier.specs.Groups.{Group, is_explicit, is_key, is_read_only}
use Rattle.cache_tier.specs.Shown.{exceeds, instances_where, root_key, shown_in, shows_root}
use Rattle.cache_tier.specs.Targets.{Target, matching}
use Rattle.cache_tier.proofs.ShownTrees.{front_kept}
use Rattle.stored_tier.specs.Choosing.{chosen, comes, matches_at}
use Rattle.stored_tier.specs.Gathering.{gathered_in}
use Rattle.group_engine.specs.Taking.{IsOfTarget}
use Rattle.stored_tier.proofs.GatherLaws.{count_chosen, entries_kept, get_chosen}

abbrev Row : Type 0
Row = List Value

abbrev Test : Type 0
Test = Row → Bool

-- rows that pass, by their keys

pub get_retained : (R : Table) (f : Test) (k : Row) → fm.get (fm.retain_keys R f) k ≡ cond (f k) (fm.get R k) None
get_retained R f k = fm.get-retain_keys R f k (λ x tie. ap f (sym (key_exact k x tie)))

same_none : (a b : Bool) → cond a (let o : Option Row = None in o) None ≡ cond b None None
same_none true true = refl
same_none true false = refl
same_none false true = refl
same_none false false = refl

pub by_keys : (R : Table) (t f : Test) → ((k r : Row) → fm.get R k ≡ Some r → t r ≡ f k) → rows_where t R ≡ fm.retain_keys R f
by_keys R t f same = fm.same_map key_total key_exact (rows_where t R) (fm.retain_keys R f) (λ k. get_where t R k ∙ by k (fm.get R k) refl ∙ sym (get_retained R f k))
  where
    by : (k : Row) (o : Option Row) → fm.get R k ≡ o → cond (passes t (fm.get R k)) (fm.get R k) None ≡ cond (f k) (fm.get R k) None
    by k None e = ap (λ (o : Option Row). cond (passes t o) o None) e ∙ same_none false (f k) ∙ sym (ap (λ (o : Option Row). cond (f k) o None) e)
    by k (Some r) e = ap (λ (o : Option Row). cond (passes t o) o None) e ∙ ap (λ b. cond b (Some r) None) (same k r e) ∙ sym (ap (λ (o : Option Row). cond (f k) o None) e)

pub retain_alike : (R : Table) (f h : Test) → ((k r : Row) → fm.get R k ≡ Some r → f k ≡ h k) → fm.retain_keys R f ≡ fm.retain_keys R h
retain_alike R f h same = fm.same_map key_total key_exact (fm.retain_keys R f) (fm.retain_keys R h) (λ k. get_retained R f k ∙ by k (fm.get R k) refl ∙ sym (get_retained R h k))
  where
    by : (k : Row) (o : Option Row) → fm.get R k ≡ o → cond (f k) (fm.get R k) None ≡ cond (h k) (fm.get R k) None
    by k None e = ap (λ (o : Option Row). cond (f k) o None) e ∙ same_none (f k) (h k) ∙ sym (ap (λ (o : Option Row). cond (h k) o None) e)
    by k (Some r) e = ap (λ b. cond b (fm.get R k) None) (same k r e)

-- where there is no WHERE each root row is one

pub plain_roots : (s : TableState) (tree : Tree) → tree.root.filter ≡ None → root_rows s tree.root ≡ table_at s tree.root.table
plain_roots s tree plain = fm.same_map key_total key_exact (root_rows s tree.root) (table_at s tree.root.table) (λ k.
    get_where (selects tree.root.filter) (table_at s tree.root.table) k
    ∙ ap (λ f. cond (passes (selects f) (fm.get (table_at s tree.root.table) k)) (fm.get (table_at s tree.root.table) k) None) plain
    ∙ of (fm.get (table_at s tree.root.table) k))
  where
    of : (o : Option Row) → cond (passes (selects None) o) o None ≡ o
    of None = refl
    of (Some r) = refl

-- the root rows stand under their keys
pub record HasRoots (s : TableState) (g : Group) (R : Table) : Type 0 where
  pub plain : g.def.tree.root.filter ≡ None
  pub rows : table_at s g.def.tree.root.table ≡ R
  pub keyed : (k r : Row) → fm.get R k ≡ Some r → root_key s g r ≡ k

module _ (s : TableState) (g : Group) (R : Table) (h : HasRoots s g R) where
  pub roots_are : root_rows s g.def.tree.root ≡ R
  roots_are = plain_roots s g.def.tree h.plain ∙ h.rows

  -- a test of root keys
  pub instances_by : (t : Test) (f : Test) → ((k r : Row) → fm.get R k ≡ Some r → t r ≡ f k) → instances_where s g.def.tree t ≡ shown_of s g.def.tree f
  instances_by t f same = ap (λ m. with_children s g.def.tree.children (m ∷ []))
      (by_keys (root_rows s g.def.tree.root) t f (λ k r e. same k r (ap (λ (m : Table). fm.get m k) (sym roots_are) ∙ e)))

  pub instances_of_keys : (f : Test) → instances_where s g.def.tree (λ row. f (root_key s g row)) ≡ shown_of s g.def.tree f
  instances_of_keys f = instances_by (λ row. f (root_key s g row)) f (λ k r e. ap f (h.keyed k r e))

  pub shown_by_keys : is_read_only g ≡ false → shown_in s g ≡ shown_of s g.def.tree (is_key g.keys)
  shown_by_keys reads = instances_by (shows_root s g) (is_key g.keys) (λ k r e.
      ap (λ b. cond b (cond (is_explicit g) g.loaded (is_key g.keys (root_key s g r)) && exceeds g r) (is_key g.keys (root_key s g r))) reads
      ∙ ap (is_key g.keys) (h.keyed k r e))

  -- the roots of what is shown
  pub root_of_shown : (f : Test) (k : Row) → fm.get (kept_at (shown_of s g.def.tree f) 0) k ≡ cond (f k) (fm.get R k) None
  root_of_shown f k =
      ap (λ (m : Table). fm.get m k) (front_kept s g.def.tree.children (fm.retain_keys (root_rows s g.def.tree.root) f ∷ []) 0 (omega arith))
      ∙ get_retained (root_rows s g.def.tree.root) f k
      ∙ ap (λ (m : Table). cond (f k) (fm.get m k) None) roots_are

  pub shown_alike : (f t : Test) → ((k r : Row) → fm.get R k ≡ Some r → f k ≡ t k) → shown_of s g.def.tree f ≡ shown_of s g.def.tree t
  shown_alike f t same = ap (λ m. with_children s g.def.tree.children (m ∷ []))
      (retain_alike (root_rows s g.def.tree.root) f t (λ k r e. same k r (ap (λ (m : Table). fm.get m k) (sym roots_are) ∙ e)))

-- what matches

module _ (s : TableState) (x : Target) (R : Table) (h : HasRoots s x.group R) (place : ℕ) (which : ResolvedWhich) (of : IsOfTarget x place which) where
  same_match : (k r : Row) → fm.get R k ≡ Some r → matches x.filter x.id s x.group r ≡ matches_at which k r
  same_match k r e =
      ap (λ f. is_true (selects_row f r) && is_id (root_key s x.group r) x.id) (sym of.filter)
      ∙ ap (λ q. is_true (selects_row which.filter r) && is_id q x.id) (h.keyed k r e)
      ∙ ap (λ b. is_true (selects_row which.filter r) && b) (sym (of.id k))

  pub matching_is : matching s x ≡ chosen (matches_at which) R
  matching_is =
      front_kept s x.group.def.tree.children (rows_where (matches x.filter x.id s x.group) (root_rows s x.group.def.tree.root) ∷ []) 0 (omega arith)
      ∙ ap (rows_where (matches x.filter x.id s x.group)) (roots_are s x.group R h)
      ∙ by_keys R (matches x.filter x.id s x.group) (λ k. passes (matches_at which k) (fm.get R k)) (λ k r e. same_match k r e ∙ sym (ap (passes (matches_at which k)) e))

-- what comes

both : (p m : Bool) → (p || (m && not p)) ≡ (p || m)
both true m = refl
both false true = refl
both false false = refl

module _ (R : Table) (keys : List Row) (store : Kept) (which : ResolvedWhich) (has : (k r : Row) → fm.get R k ≡ Some r → fm.contains_key (kept_at store.tables 0) k ≡ is_key keys k) where
  -- those that the store has, and those that come
  pub all_shown : (k r : Row) → fm.get R k ≡ Some r
      → (is_key keys k || passes (comes which store k) (fm.get R k)) ≡ (is_key keys k || fm.contains_key (chosen (matches_at which) R) k)
  all_shown k r e =
      ap (λ o. is_key keys k || passes (comes which store k) o) e
      ∙ ap (λ b. is_key keys k || (matches_at which k r && not b)) (has k r e)
      ∙ both (is_key keys k) (matches_at which k r)
      ∙ sym (ap (λ b. is_key keys k || b) chosen_has)
    where
      some : (b : Bool) → is_some (cond b (Some r) None) ≡ b
      some true = refl
      some false = refl

      chosen_has : fm.contains_key (chosen (matches_at which) R) k ≡ matches_at which k r
      chosen_has =
          ap is_some (get_chosen (matches_at which) R k)
          ∙ ap (λ (o : Option Row). is_some (cond (passes (matches_at which k) o) o None)) e
          ∙ some (matches_at which k r)

  filter_both : {A B : Type 0} (n : B → Bool) (f : A → B) (p : A → Bool) (xs : List A) → length (filter n (map f (filter p xs))) ≡ length (filter (λ y. p y && n (f y)) xs)
  filter_both n f p [] = refl
  filter_both n f p (y ∷ ys) = by (p y) (filter_both n f p ys)
    where
      of : (b : Bool) → length (filter n (map f (filter p ys))) ≡ length (filter (λ z. p z && n (f z)) ys) → length (cond b (f y ∷ filter n (map f (filter p ys))) (filter n (map f (filter p ys)))) ≡ length (cond b (y ∷ filter (λ z. p z && n (f z)) ys) (filter (λ z. p z && n (f z)) ys))
      of true e = ap suc e
      of false e = e

      by : (b : Bool) → length (filter n (map f (filter p ys))) ≡ length (filter (λ z. p z && n (f z)) ys)
          → length (filter n (map f (cond b (y ∷ filter p ys) (filter p ys)))) ≡ length (cond (b && n (f y)) (y ∷ filter (λ z. p z && n (f z)) ys) (filter (λ z. p z && n (f z)) ys))
      by true e = of (n (f y)) e
      by false e = e

  filter_alike : {A : Type 0} (p q : A → Bool) (xs : List A) → ((i : ℕ) (y : A) → slice_get xs i ≡ Some y → p y ≡ q y) → filter p xs ≡ filter q xs
  filter_alike p q [] same = refl
  filter_alike p q (y ∷ ys) same =
      ap (λ b. cond b (y ∷ filter p ys) (filter p ys)) (same 0 y refl)
      ∙ ap (λ zs. cond (q y) (y ∷ zs) zs) (filter_alike p q ys (λ i z at. same (suc i) z at))

  filter_map : {A B : Type 0} (n : B → Bool) (f : A → B) (p : A → Bool) (xs : List A) → filter n (map f (filter p xs)) ≡ map f (filter (λ y. p y && n (f y)) xs)
  filter_map n f p [] = refl
  filter_map n f p (y ∷ ys) = by (p y) (filter_map n f p ys)
    where
      of : (b : Bool) → filter n (map f (filter p ys)) ≡ map f (filter (λ z. p z && n (f z)) ys) → cond b (f y ∷ filter n (map f (filter p ys))) (filter n (map f (filter p ys))) ≡ map f (cond b (y ∷ filter (λ z. p z && n (f z)) ys) (filter (λ z. p z && n (f z)) ys))
      of true e = ap (λ zs. f y ∷ zs) e
      of false e = e

      by : (b : Bool) → filter n (map f (filter p ys)) ≡ map f (filter (λ z. p z && n (f z)) ys)
          → filter n (map f (cond b (y ∷ filter p ys) (filter p ys))) ≡ map f (cond (b && n (f y)) (y ∷ filter (λ z. p z && n (f z)) ys) (filter (λ z. p z && n (f z)) ys))
      by true e = of (n (f y)) e
      by false e = e

  -- the keys that come, in their order
  pub coming_keys : filter (λ key. not (is_key keys key)) (fm.keys (chosen (matches_at which) R)) ≡ fm.keys (chosen (comes which store) R)
  coming_keys =
      ap (λ (es : List (Row × Row)). filter (λ key. not (is_key keys key)) (map (λ e. e.0) es)) (entries_kept R (λ k. passes (matches_at which k) (fm.get R k)))
      ∙ filter_map (λ key. not (is_key keys key)) (λ (e : Row × Row). e.0) (λ e. passes (matches_at which e.0) (fm.get R e.0)) (fm.entries R)
      ∙ ap (map (λ (e : Row × Row). e.0)) (filter_alike (λ (e : Row × Row). passes (matches_at which e.0) (fm.get R e.0) && not (is_key keys e.0)) (λ e. passes (comes which store e.0) (fm.get R e.0)) (fm.entries R) (λ i e at.
      ap (λ o. passes (matches_at which e.0) o && not (is_key keys e.0)) (entry_found R i e at)
      ∙ ap (λ b. matches_at which e.0 e.1 && not b) (sym (has e.0 e.1 (entry_found R i e at)))
      ∙ sym (ap (passes (comes which store e.0)) (entry_found R i e at))))
      ∙ sym (ap (λ (es : List (Row × Row)). map (λ e. e.0) es) (entries_kept R (λ k. passes (comes which store k) (fm.get R k))))

  -- how many come
  pub count_coming : length (filter (λ key. not (is_key keys key)) (fm.keys (chosen (matches_at which) R))) ≡ fm.len (chosen (comes which store) R)
  count_coming =
      ap (λ (es : List (Row × Row)). length (filter (λ key. not (is_key keys key)) (map (λ e. e.0) es))) (entries_kept R (λ k. passes (matches_at which k) (fm.get R k)))
      ∙ filter_both (λ key. not (is_key keys key)) (λ (e : Row × Row). e.0) (λ e. passes (matches_at which e.0) (fm.get R e.0)) (fm.entries R)
      ∙ ap length (filter_alike (λ (e : Row × Row). passes (matches_at which e.0) (fm.get R e.0) && not (is_key keys e.0)) (λ e. comes which store e.0 e.1) (fm.entries R) (λ i e at.
      ap (λ o. passes (matches_at which e.0) o && not (is_key keys e.0)) (entry_found R i e at)
      ∙ ap (λ b. matches_at which e.0 e.1 && not b) (sym (has e.0 e.1 (entry_found R i e at)))))
      ∙ sym (count_chosen (comes which store) R)

-- rows that were copied

pub record AreCopied (tree : Tree) (v c : TableState) : Type 0 where
  pub root : table_at c tree.root.table ≡ table_at v tree.root.table
  pub schema : c.schema ≡ v.schema
  pub children : (i : ℕ) (child : Child) → slice_get tree.children i ≡ Some child → table_at c child.table ≡ table_at v child.table

child_alike : (v c : TableState) (parents : Table) (child : Child) → table_at c child.table ≡ table_at v child.table → c.schema ≡ v.schema → child_rows c parents child ≡ child_rows v parents child
child_alike v c parents child rows def = λ i. rows_where (λ row. selects child.filter row && refers_to_one parents (slice_get (def i) child.table.0) row) (rows i)

children_alike : (v c : TableState) (children : List Child) (kept : List Table) → c.schema ≡ v.schema → ((i : ℕ) (child : Child) → slice_get children i ≡ Some child → table_at c child.table ≡ table_at v child.table) → with_children c children kept ≡ with_children v children kept
children_alike v c [] kept schema same = refl
children_alike v c (d ∷ children) kept schema same =
    ap (λ m. with_children c children (kept ++ m ∷ [])) (child_alike v c (kept_at kept d.parent) d (same 0 d refl) schema)
    ∙ children_alike v c children (kept ++ child_rows v (kept_at kept d.parent) d ∷ []) schema (λ i e at. same (suc i) e at)

-- what is gathered from the copy is what is shown of the roots that come
pub gathered_shown : (v c : TableState) (tree : Tree) (store : Kept) (which : ResolvedWhich) → tree.root.filter ≡ None → AreCopied tree v c
    → gathered_in c tree store which ≡ shown_of v tree (λ k. passes (comes which store k) (fm.get (table_at v tree.root.table) k))
gathered_shown v c tree store which plain a =
    children_alike v c tree.children (chosen (comes which store) (table_at c tree.root.table) ∷ []) a.schema a.children
    ∙ ap (λ (m : Table). with_children v tree.children (chosen (comes which store) m ∷ [])) a.root
    ∙ ap (λ (m : Table). with_children v tree.children (fm.retain_keys m (λ k. passes (comes which store k) (fm.get (table_at v tree.root.table) k)) ∷ [])) (sym (plain_roots v tree plain))
