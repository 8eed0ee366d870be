-- Told instances are cut down: they leave a store, but for root rows of those that are shown then.
use Rattle.std.proofs.Common.{◌≡◌, ℕ, zero, suc, ◌+◌, Bool, true, false, ◌&&◌, ◌||◌, not, cond, Option, Some, None, is_some, List, [], ◌∷◌, length, slice_get, refl, sym, ap, subst, ◌∙◌, arith}
use Rattle.std.specs.Option.{option_or}
use Rattle.std.specs.FinMap as fm
use Rattle.row_types.specs.declared.value.Value.{Value}
use Rattle.indexed_rows.specs.Rows.{Table, is_same, key_of}
use Rattle.indexed_rows.proofs.EntryLaws.{same_values}
use Rattle.table_state.specs.Tables.{TableState, table_at}
use Rattle.instances.specs.declared.tree.Tree.{Tree}
use Rattle.instances.specs.Trees.{is_sound}
use Rattle.instances.specs.Views.{instance_of, kept_at, passes, root_rows, selects}
use Rattle.instances.proofs.Gathering.{get_where}
use Rattle.outside.specs.declared.changes.Touched.{Touched}
use Rattle.outside.proofs.RowLaws.{is_same_self}
use Rattle.order_laws.proofs.TruthLaws.{or_true}
use Rattle.cache_store.specs.Shown.{shown_of}
use Rattle.cache_store.proofs.JoinLaws.{get_put_in, or_none}
use Rattle.cache_store.proofs.ShownLaws.{shown_length}
use Rattle.group_store.specs.Keeping.{IsFor}
use Rattle.group_store.specs.Stores.{Kept}
use Rattle.changed_sets.specs.Told.{AreUnderKeys}
use Rattle.changed_sets.proofs.CutLaws.{all_late, apart, cut_root, cut_tables, first_put, later_put, one_cut, put_long, put_root, row_of}
use Rattle.changed_sets.proofs.KeyedLaws.{under}
use Rattle.changed_sets.proofs.LeftLaws.{AreNow, AreOnce, Drops, Test, first_shown, instance_root, is_chosen, left, left_more, left_none, there}

abbrev Row : Type 0
Row = List Value

pub and_true : (a : Bool) → (a && true) ≡ a
and_true true = refl
and_true false = refl

-- one root row beside others
join_root : (a : Option Row) (b c : Bool) (r : Option Row) (row : Row) → (c ≡ true → r ≡ Some row) → option_or (option_or a (cond b r None)) (cond c (Some row) None) ≡ option_or a (cond (b || c) r None)
join_root (Some x) b c r row is = refl
join_root None true true r row is = (λ i. option_or (is refl i) (Some row)) ∙ sym (is refl)
join_root None true false r row is = or_none r
join_root None false true r row is = sym (is refl)
join_root None false false r row is = refl

module _ (drops : Drops) (from to : TableState) (tree : Tree) (under_keys : AreUnderKeys to) (sound : is_sound to.schema tree ≡ true) (s : Kept) (form : IsFor to.schema tree s) (was : IsFor from.schema tree s) (shown : Touched → Bool) where
  -- What is left of a store that showed instances of the first state: those that weren't told, and root rows, as the second
  -- state has them, of told ones that were there and are shown then.
  pub record IsCutDown (told : List Touched) (p : Test) (start ts : List Table) : Type 0 where
    pub long : length ts ≡ 1 + length tree.children
    pub bare : Test
    pub roots : (key : Row) → fm.get (kept_at ts 0) key ≡ option_or (fm.get (kept_at (shown_of from tree (left p told)) 0) key) (cond (bare key) (fm.get (root_rows to tree.root) key) None)
    pub later : (i : ℕ) (key : Row) → fm.get (kept_at ts (suc i)) key ≡ fm.get (kept_at (shown_of from tree (left p told)) (suc i)) key
    pub within : (k : Row) → bare k ≡ true → is_chosen shown told k ≡ true
    pub kept : (i : ℕ) (t : Touched) → slice_get told i ≡ Some t → shown t ≡ true → (row : Row) → fm.get (root_rows to tree.root) t.instance.root ≡ Some row
        → fm.contains_key (kept_at start 0) t.instance.root ≡ true → bare t.instance.root ≡ true

  root_found : (key row : Row) → fm.get (root_rows to tree.root) key ≡ Some row → fm.get (table_at to tree.root.table) key ≡ Some row
  root_found key row e = in_table (passes (selects tree.root.filter) (fm.get (table_at to tree.root.table) key)) (fm.get (table_at to tree.root.table) key) (sym (get_where (selects tree.root.filter) (table_at to tree.root.table) key) ∙ e)
    where
      in_table : (b : Bool) (v : Option Row) → cond b v None ≡ Some row → v ≡ Some row
      in_table true v f = f
      in_table false v f = cc

  -- the root row of one that is shown
  row_is : (t : Touched) → t.instance.rows ≡ instance_of to tree t.instance.root → (row : Row) → row_of shown t ≡ Some row → fm.get (root_rows to tree.root) t.instance.root ≡ Some row
  row_is t now row e =
      sym (instance_root to tree t.instance.root) ∙ sym (ap (λ ts. fm.get (kept_at ts 0) t.instance.root) now) ∙ (there (shown t) (fm.get (kept_at t.instance.rows 0) t.instance.root) row e).is

  row_there : (t : Touched) → t.instance.rows ≡ instance_of to tree t.instance.root → shown t ≡ true → (row : Row) → fm.get (root_rows to tree.root) t.instance.root ≡ Some row → row_of shown t ≡ Some row
  row_there t now shows row e =
      ap (λ b. cond b (fm.get (kept_at t.instance.rows 0) t.instance.root) None) shows
      ∙ ap (λ ts. fm.get (kept_at ts 0) t.instance.root) now ∙ instance_root to tree t.instance.root ∙ e

  row_under : (t : Touched) → t.instance.rows ≡ instance_of to tree t.instance.root → (row : Row) → row_of shown t ≡ Some row → key_of s.key row ≡ t.instance.root
  row_under t now row e = under to tree under_keys sound s form (λ k. true) 0 tree.root.table refl t.instance.root row (root_found t.instance.root row (row_is t now row e))

  -- one leaves
  left_tables : (p : Test) (r : Row) (ts : List Table) → ts ≡ shown_of from tree p → cut_root s.layers r ts ≡ shown_of from tree (λ k. p k && not (is_same k r))
  left_tables p r ts e =
      (drops from tree p r (record s { tables = ts }) (record {
        form = record { table = was.table; key = was.key; foreign = was.foreign; layers = was.layers };
        tables = e;
      })).tables

  module _ (t : Touched) (told : List Touched) (once : AreOnce (t ∷ told)) (now : AreNow to tree (t ∷ told)) (p : Test) (ts : List Table) (e : ts ≡ shown_of from tree p)
      (rest : IsCutDown told (λ k. p k && not (is_same k t.instance.root)) (cut_root s.layers t.instance.root ts) (cut_tables s.layers s.key shown told (cut_root s.layers t.instance.root ts))) where
    abbrev r : Row
    r = t.instance.root

    abbrev next : List Table
    next = cut_tables s.layers s.key shown told (cut_root s.layers t.instance.root ts)

    other : (i : ℕ) (u : Touched) → slice_get told i ≡ Some u → u.instance.root ≡ r → ⊥
    other i u at same = (let z : suc i ≡ 0 = once (suc i) 0 u t at refl same in absurd (omega (arith, z)))

    still : (k : Row) → (k ≡ r → ⊥) → fm.contains_key (kept_at (cut_root s.layers r ts) 0) k ≡ fm.contains_key (kept_at ts 0) k
    still k differs =
        ap (λ x. fm.contains_key (kept_at x 0) k) (left_tables p r ts e)
        ∙ ap is_some (first_shown from tree (λ x. p x && not (is_same x r)) k)
        ∙ ap (λ b. is_some (cond (p k && not b) (fm.get (root_rows from tree.root) k) None)) (apart k r differs)
        ∙ ap (λ b. is_some (cond b (fm.get (root_rows from tree.root) k) None)) (and_true (p k))
        ∙ sym (ap (λ x. fm.contains_key (kept_at x 0) k) e ∙ ap is_some (first_shown from tree p k))

    more_within : (k : Row) → rest.bare k ≡ true → is_chosen shown (t ∷ told) k ≡ true
    more_within k f = ap (λ b. (shown t && is_same k r) || b) (rest.within k f) ∙ or_true (shown t && is_same k r)

    -- it left
    gone : ((row : Row) → row_of shown t ≡ Some row → fm.contains_key (kept_at ts 0) r ≡ true → ⊥) → IsCutDown (t ∷ told) p ts next
    gone none = record {
      long = rest.long;
      bare = rest.bare;
      roots = λ key. rest.roots key ∙ ap (λ q. option_or (fm.get (kept_at (shown_of from tree q) 0) key) (cond (rest.bare key) (fm.get (root_rows to tree.root) key) None)) (left_more p t told);
      later = λ i key. rest.later i key ∙ ap (λ q. fm.get (kept_at (shown_of from tree q) (suc i)) key) (left_more p t told);
      within = more_within;
      kept = kept;
    }
      where
        kept : (i : ℕ) (u : Touched) → slice_get (t ∷ told) i ≡ Some u → shown u ≡ true → (row : Row) → fm.get (root_rows to tree.root) u.instance.root ≡ Some row → fm.contains_key (kept_at ts 0) u.instance.root ≡ true → rest.bare u.instance.root ≡ true
        kept zero u at shows row has was_there =
            let same : t ≡ u = cc in
            absurd (none row
            (subst (λ z. row_of shown z ≡ Some row) (sym same) (row_there u (now 0 u at) shows row has))
            (subst (λ (z : Touched). fm.contains_key (kept_at ts 0) z.instance.root ≡ true) (sym same) was_there))
        kept (suc i) u at shows row has was_there = rest.kept i u at shows row has (still u.instance.root (other i u at) ∙ was_there)

    -- its root row is left
    stays : (row : Row) → row_of shown t ≡ Some row → IsCutDown (t ∷ told) p ts (put_root s.key row next)
    stays row row_e = record {
      long = put_long s.key row next ∙ rest.long;
      bare = λ k. rest.bare k || is_same k r;
      roots = λ key.
          ap (λ (m : Table). fm.get m key) (first_put s.key row next (length tree.children) rest.long)
          ∙ get_put_in (kept_at next 0) (key_of s.key row) row key
          ∙ ap (λ z. option_or (fm.get (kept_at next 0) key) (cond (is_same key z) (Some row) None)) (row_under t (now 0 t refl) row row_e)
          ∙ ap (λ o. option_or o (cond (is_same key r) (Some row) None)) (rest.roots key ∙ ap (λ q. option_or (fm.get (kept_at (shown_of from tree q) 0) key) (cond (rest.bare key) (fm.get (root_rows to tree.root) key) None)) (left_more p t told))
          ∙ join_root (fm.get (kept_at (shown_of from tree (left p (t ∷ told))) 0) key) (rest.bare key) (is_same key r) (fm.get (root_rows to tree.root) key) row
          (λ f. ap (fm.get (root_rows to tree.root)) (same_values key r f) ∙ row_is t (now 0 t refl) row row_e);
      later = λ i key.
          ap (λ (m : Table). fm.get m key) (later_put s.key row next i)
          ∙ rest.later i key ∙ ap (λ q. fm.get (kept_at (shown_of from tree q) (suc i)) key) (left_more p t told);
      within = λ k f. by_within k (rest.bare k) refl (is_same k r) refl f;
      kept = kept;
    }
      where
        by_within : (k : Row) (a : Bool) → rest.bare k ≡ a → (b : Bool) → is_same k r ≡ b → (rest.bare k || is_same k r) ≡ true → is_chosen shown (t ∷ told) k ≡ true
        by_within k true x b y f = more_within k x
        by_within k false x true y f =
            ap (λ c. (c && is_same k r) || is_chosen shown told k) (there (shown t) (fm.get (kept_at t.instance.rows 0) t.instance.root) row row_e).passes
            ∙ ap (λ c. c || is_chosen shown told k) y
        by_within k false x false y f = let wrong : false ≡ true = sym (λ i. x i || y i) ∙ f in cc

        kept : (i : ℕ) (u : Touched) → slice_get (t ∷ told) i ≡ Some u → shown u ≡ true → (row : Row) → fm.get (root_rows to tree.root) u.instance.root ≡ Some row → fm.contains_key (kept_at ts 0) u.instance.root ≡ true → (rest.bare u.instance.root || is_same u.instance.root r) ≡ true
        kept zero u at shows other_row has was_there =
            let same : t ≡ u = cc in
            ap (λ c. rest.bare u.instance.root || c) (subst (λ (z : Touched). is_same z.instance.root r ≡ true) same (is_same_self r)) ∙ or_true (rest.bare u.instance.root)
        kept (suc i) u at shows other_row has was_there =
            ap (λ c. c || is_same u.instance.root r) (rest.kept i u at shows other_row has (still u.instance.root (other i u at) ∙ was_there))

    late : (row : Row) → row_of shown t ≡ Some row → cut_tables s.layers s.key shown told (put_root s.key row (cut_root s.layers r ts)) ≡ put_root s.key row next
    late row row_e =
        all_late s.layers s.key shown row told (λ i u at same. other i u at (sym same ∙ row_under t (now 0 t refl) row row_e)) (λ i u at o f. row_under u (now (suc i) u at) o f) (cut_root s.layers r ts)

    one_more : IsCutDown (t ∷ told) p ts (cut_tables s.layers s.key shown (t ∷ told) ts)
    one_more = by (row_of shown t) refl (fm.contains_key (kept_at ts 0) r) refl
      where
        by : (o : Option Row) → row_of shown t ≡ o → (c : Bool) → fm.contains_key (kept_at ts 0) r ≡ c → IsCutDown (t ∷ told) p ts (cut_tables s.layers s.key shown told (one_cut s.layers s.key (row_of shown t) r ts))
        by None f c g =
            subst (λ o. IsCutDown (t ∷ told) p ts (cut_tables s.layers s.key shown told (one_cut s.layers s.key o r ts))) (sym f)
            (gone (λ row h has. (let wrong : None ≡ Some row = sym f ∙ h in cc)))
        by (Some row) f false g =
            subst (λ o. IsCutDown (t ∷ told) p ts (cut_tables s.layers s.key shown told (one_cut s.layers s.key o r ts))) (sym f)
            (subst (λ b. IsCutDown (t ∷ told) p ts (cut_tables s.layers s.key shown told (cond b (put_root s.key row (cut_root s.layers r ts)) (cut_root s.layers r ts)))) (sym g)
            (gone (λ other_row h has. (let wrong : false ≡ true = sym g ∙ has in cc))))
        by (Some row) f true g =
            subst (λ o. IsCutDown (t ∷ told) p ts (cut_tables s.layers s.key shown told (one_cut s.layers s.key o r ts))) (sym f)
            (subst (λ b. IsCutDown (t ∷ told) p ts (cut_tables s.layers s.key shown told (cond b (put_root s.key row (cut_root s.layers r ts)) (cut_root s.layers r ts)))) (sym g)
            (subst (IsCutDown (t ∷ told) p ts) (sym (late row f)) (stays row f)))

  pub cut_down : (told : List Touched) → AreOnce told → AreNow to tree told → (p : Test) (ts : List Table) → ts ≡ shown_of from tree p → IsCutDown told p ts (cut_tables s.layers s.key shown told ts)
  cut_down [] once now p ts e = record {
    long = ap length e ∙ shown_length from tree p;
    bare = λ k. false;
    roots = λ key.
        ap (λ x. fm.get (kept_at x 0) key) e
        ∙ ap (λ q. fm.get (kept_at (shown_of from tree q) 0) key) (sym (left_none p))
        ∙ sym (or_none (fm.get (kept_at (shown_of from tree (left p [])) 0) key));
    later = λ i key. ap (λ x. fm.get (kept_at x (suc i)) key) e ∙ ap (λ q. fm.get (kept_at (shown_of from tree q) (suc i)) key) (sym (left_none p));
    within = λ k f. cc;
    kept = λ i t at. cc;
  }
  cut_down (t ∷ told) once now p ts e =
      one_more t told once now p ts e
      (cut_down told (λ i j a b x y same. (let z : suc i ≡ suc j = once (suc i) (suc j) a b x y same in omega (arith, z))) (λ i u at. now (suc i) u at)
      (λ k. p k && not (is_same k t.instance.root)) (cut_root s.layers t.instance.root ts) (left_tables p t.instance.root ts e))
