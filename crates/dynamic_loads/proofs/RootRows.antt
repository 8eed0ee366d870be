-- What a writethrough group shows, by its root keys.
use Rattle.std.proofs.Common.{◌≡◌, Bool, true, false, cond, ◌&&◌, Option, Some, None, [], ◌∷◌, arith, refl, sym, ap, ◌∙◌, List}
use Rattle.std.specs.FinMap as fm
use Rattle.row_types.specs.declared.value.Value.{Value}
use Rattle.row_types.proofs.OrderLaws.{key_exact, key_total}
use Rattle.indexed_rows.specs.Rows.{Table}
use Rattle.table_state.specs.Tables.{TableState, table_at}
use Rattle.instances.specs.declared.tree.Tree.{Tree}
use Rattle.instances.specs.Views.{kept_at, passes, root_rows, rows_where, selects, with_children}
use Rattle.instances.proofs.Gathering.{get_where}
use Rattle.cache_store.specs.Shown.{shown_of}
use Rattle.cache_tier.specs.Groups.{Group, is_explicit, is_key, is_read_only}
use Rattle.cache_tier.specs.Shown.{exceeds, instances_where, root_key, shown_in, shows_root}
use Rattle.cache_tier.proofs.ShownTrees.{front_kept}

abbrev pub Row : Type 0
Row = List Value

abbrev pub Test : Type 0
Test = Row → Bool

-- rows that pass, by their keys

pub get_retained : (R : Table) (f : Test) (k : Row) → fm.get (fm.retain_keys R f) k ≡ cond (f k) (fm.get R k) None
get_retained R f k = fm.get-retain_keys R f k (λ x tie. ap f (sym (key_exact k x tie)))

same_none : (a b : Bool) → cond a (let o : Option Row = None in o) None ≡ cond b None None
same_none true true = refl
same_none true false = refl
same_none false true = refl
same_none false false = refl

by_keys : (R : Table) (t f : Test) → ((k r : Row) → fm.get R k ≡ Some r → t r ≡ f k) → rows_where t R ≡ fm.retain_keys R f
by_keys R t f same = fm.same_map key_total key_exact (rows_where t R) (fm.retain_keys R f) (λ k. get_where t R k ∙ by k (fm.get R k) refl ∙ sym (get_retained R f k))
  where
    by : (k : Row) (o : Option Row) → fm.get R k ≡ o → cond (passes t (fm.get R k)) (fm.get R k) None ≡ cond (f k) (fm.get R k) None
    by k None e = ap (λ (o : Option Row). cond (passes t o) o None) e ∙ same_none false (f k) ∙ sym (ap (λ (o : Option Row). cond (f k) o None) e)
    by k (Some r) e = ap (λ (o : Option Row). cond (passes t o) o None) e ∙ ap (λ b. cond b (Some r) None) (same k r e) ∙ sym (ap (λ (o : Option Row). cond (f k) o None) e)

-- where there is no WHERE each root row is one

plain_roots : (s : TableState) (tree : Tree) → tree.root.filter ≡ None → root_rows s tree.root ≡ table_at s tree.root.table
plain_roots s tree plain = fm.same_map key_total key_exact (root_rows s tree.root) (table_at s tree.root.table) (λ k.
    get_where (selects tree.root.filter) (table_at s tree.root.table) k
    ∙ ap (λ f. cond (passes (selects f) (fm.get (table_at s tree.root.table) k)) (fm.get (table_at s tree.root.table) k) None) plain
    ∙ of (fm.get (table_at s tree.root.table) k))
  where
    of : (o : Option Row) → cond (passes (selects None) o) o None ≡ o
    of None = refl
    of (Some r) = refl

-- the root rows stand under their keys
pub record HasRoots (s : TableState) (g : Group) (R : Table) : Type 0 where
  pub plain : g.def.tree.root.filter ≡ None
  pub rows : table_at s g.def.tree.root.table ≡ R
  pub keyed : (k r : Row) → fm.get R k ≡ Some r → root_key s g r ≡ k

module _ (s : TableState) (g : Group) (R : Table) (h : HasRoots s g R) where
  pub roots_are : root_rows s g.def.tree.root ≡ R
  roots_are = plain_roots s g.def.tree h.plain ∙ h.rows

  -- a test of root keys
  instances_by : (t : Test) (f : Test) → ((k r : Row) → fm.get R k ≡ Some r → t r ≡ f k) → instances_where s g.def.tree t ≡ shown_of s g.def.tree f
  instances_by t f same = ap (λ m. with_children s g.def.tree.children (m ∷ []))
      (by_keys (root_rows s g.def.tree.root) t f (λ k r e. same k r (ap (λ (m : Table). fm.get m k) (sym roots_are) ∙ e)))

  pub instances_of_keys : (f : Test) → instances_where s g.def.tree (λ row. f (root_key s g row)) ≡ shown_of s g.def.tree f
  instances_of_keys f = instances_by (λ row. f (root_key s g row)) f (λ k r e. ap f (h.keyed k r e))

  pub shown_by_keys : is_read_only g ≡ false → shown_in s g ≡ shown_of s g.def.tree (is_key g.keys)
  shown_by_keys reads = instances_by (shows_root s g) (is_key g.keys) (λ k r e.
      ap (λ b. cond b (cond (is_explicit g) g.loaded (is_key g.keys (root_key s g r)) && exceeds g r) (is_key g.keys (root_key s g r))) reads
      ∙ ap (is_key g.keys) (h.keyed k r e))

  -- the roots of what is shown
  pub root_of_shown : (f : Test) (k : Row) → fm.get (kept_at (shown_of s g.def.tree f) 0) k ≡ cond (f k) (fm.get R k) None
  root_of_shown f k =
      ap (λ (m : Table). fm.get m k) (front_kept s g.def.tree.children (fm.retain_keys (root_rows s g.def.tree.root) f ∷ []) 0 (omega arith))
      ∙ get_retained (root_rows s g.def.tree.root) f k
      ∙ ap (λ (m : Table). cond (f k) (fm.get m k) None) roots_are
