-- The root rows of a snapshot that a dynamic READONLY group is loaded with, and those on which the condition is judged.
use Rattle.std.proofs.Common.{◌≡◌, ℕ, suc, Bool, true, false, not, cond, ◌&&◌, ◌||◌, Option, Some, None, is_some, is_none, List, [], ◌∷◌, length, map, filter, slice_get, refl, sym, ap, ◌∙◌, arith}
use Rattle.std.proofs.lemmas.List.{length-map}
use Rattle.std.specs.FinMap as fm
use Rattle.std.specs.List.{list_any}
use Rattle.expressions.specs.Trees.{Cond}
use Rattle.row_types.specs.declared.value.Value.{Value}
use Rattle.row_types.proofs.OrderLaws.{key_exact, key_total}
use Rattle.indexed_rows.specs.Rows.{Table}
use Rattle.table_state.specs.Tables.{TableState, table_at}
use Rattle.evaluator.specs.Writes.{selects as judges}
use Rattle.instances.specs.Views.{is_true, kept_at, passes, root_rows, rows_where, selects}
use Rattle.instances.proofs.Gathering.{entry_found, get_where}
use Rattle.group_catalog.specs.declared.which.ResolvedWhich.{ResolvedWhich}
use Rattle.group_store.specs.Stores.{Kept}
use Rattle.cache_tier.specs.Conditions.{is_id, matches, overflows}
use Rattle.cache_tier.specs.Groups.{Group, is_key}
use Rattle.cache_tier.specs.Sets.{is_in_view}
use Rattle.cache_tier.specs.Shown.{exceeds, instances_where, root_key}
use Rattle.cache_tier.specs.Targets.{Target, held_roots, matching_past, new_keys, view_roots}
use Rattle.cache_tier.proofs.KeyListLaws.{key_in_map}
use Rattle.cache_tier.proofs.ShownTrees.{front_kept}
use Rattle.stored_tier.specs.Choosing.{chosen, matches_at}
use Rattle.stored_tier.specs.Filling.{is_held}
use Rattle.stored_tier.proofs.GatherLaws.{entries_kept, get_chosen}
use Rattle.group_engine.specs.Fresh.{HasOwnKeys}
use Rattle.group_engine.specs.Gaining.{any_bad, is_past_row, overflows_past, taken_in}
use Rattle.group_engine.specs.Taking.{IsOfTarget}
use Rattle.group_engine.proofs.MatchLaws.{get_retained}

abbrev Row : Type 0
Row = List Value

abbrev Test : Type 0
Test = Row → Row → Bool

-- lists

filter_alike : {A : Type 0} (p q : A → Bool) (xs : List A) → ((i : ℕ) (x : A) → slice_get xs i ≡ Some x → p x ≡ q x) → filter p xs ≡ filter q xs
filter_alike p q [] same = refl
filter_alike p q (x ∷ xs) same =
    ap (λ b. cond b (x ∷ filter p xs) (filter p xs)) (same 0 x refl)
    ∙ ap (λ ys. cond (q x) (x ∷ ys) ys) (filter_alike p q xs (λ i y at. same (suc i) y at))

filter_keys : (n : Row → Bool) (p : Row × Row → Bool) (es : List (Row × Row)) → filter n (map (λ (e : Row × Row). e.0) (filter p es)) ≡ map (λ (e : Row × Row). e.0) (filter (λ e. p e && n e.0) es)
filter_keys n p [] = refl
filter_keys n p (e ∷ es) = by (p e) (filter_keys n p es)
  where
    of : (b : Bool) → filter n (map (λ (x : Row × Row). x.0) (filter p es)) ≡ map (λ (x : Row × Row). x.0) (filter (λ x. p x && n x.0) es)
        → cond b (e.0 ∷ filter n (map (λ (x : Row × Row). x.0) (filter p es))) (filter n (map (λ (x : Row × Row). x.0) (filter p es))) ≡ map (λ (x : Row × Row). x.0) (cond b (e ∷ filter (λ x. p x && n x.0) es) (filter (λ x. p x && n x.0) es))
    of true so = ap (λ l. e.0 ∷ l) so
    of false so = so

    by : (b : Bool) → filter n (map (λ (x : Row × Row). x.0) (filter p es)) ≡ map (λ (x : Row × Row). x.0) (filter (λ x. p x && n x.0) es)
        → filter n (map (λ (x : Row × Row). x.0) (cond b (e ∷ filter p es) (filter p es))) ≡ map (λ (x : Row × Row). x.0) (cond (b && n e.0) (e ∷ filter (λ x. p x && n x.0) es) (filter (λ x. p x && n x.0) es))
    by true so = of (n e.0) so
    by false so = so

any_kept : (p : Row → Bool) (t : Row × Row → Bool) (es : List (Row × Row)) → list_any p (map (λ (e : Row × Row). e.1) (filter t es)) ≡ list_any (λ (e : Row × Row). t e && p e.1) es
any_kept p t [] = refl
any_kept p t (e ∷ es) = by (t e) (any_kept p t es)
  where
    by : (b : Bool) → list_any p (map (λ (x : Row × Row). x.1) (filter t es)) ≡ list_any (λ (x : Row × Row). t x && p x.1) es
        → list_any p (map (λ (x : Row × Row). x.1) (cond b (e ∷ filter t es) (filter t es))) ≡ ((b && p e.1) || list_any (λ (x : Row × Row). t x && p x.1) es)
    by true so = ap (λ c. p e.1 || c) so
    by false so = so

-- rows that are chosen by their keys

pub chosen_entries : (u : Test) (T : Table) → fm.entries (chosen u T) ≡ filter (λ (e : Row × Row). u e.0 e.1) (fm.entries T)
chosen_entries u T =
    entries_kept T (λ key. passes (u key) (fm.get T key))
    ∙ filter_alike (λ (e : Row × Row). passes (u e.0) (fm.get T e.0)) (λ e. u e.0 e.1) (fm.entries T) (λ i e at. ap (passes (u e.0)) (entry_found T i e at))

pub chosen_keys : (u : Test) (T : Table) → fm.keys (chosen u T) ≡ map (λ (e : Row × Row). e.0) (filter (λ (e : Row × Row). u e.0 e.1) (fm.entries T))
chosen_keys u T = ap (λ (es : List (Row × Row)). map (λ e. e.0) es) (chosen_entries u T)

-- how many
pub keys_long : (m : Table) → length (fm.keys m) ≡ fm.len m
keys_long m = length-map (fm.entries m) (λ (e : Row × Row). e.0) ∙ sym (fm.len-entries m)

pub any_chosen : (f : Option Cond) (u : Test) (T : Table) → overflows f (chosen u T) ≡ any_bad (λ q row. u q row && is_none (judges f row)) T
any_chosen f u T =
    ap (λ (es : List (Row × Row)). list_any (λ row. is_none (judges f row)) (map (λ e. e.1) es)) (chosen_entries u T)
    ∙ any_kept (λ row. is_none (judges f row)) (λ e. u e.0 e.1) (fm.entries T)

keys_less : (n : Row → Bool) (u : Test) (T : Table) → filter n (fm.keys (chosen u T)) ≡ fm.keys (chosen (λ q row. u q row && n q) T)
keys_less n u T =
    ap (filter n) (chosen_keys u T)
    ∙ filter_keys n (λ e. u e.0 e.1) (fm.entries T)
    ∙ sym (chosen_keys (λ q row. u q row && n q) T)

none_of : (b : Bool) → ◌≡◌ {A = Option Row} (cond b None None) None
none_of true = refl
none_of false = refl

pub chosen_less : (n : Row → Bool) (u : Test) (T : Table) → fm.retain_keys (chosen u T) n ≡ chosen (λ q row. u q row && n q) T
chosen_less n u T = fm.same_map key_total key_exact (fm.retain_keys (chosen u T) n) (chosen (λ q row. u q row && n q) T) (λ q.
    get_retained (chosen u T) n q ∙ ap (λ (o : Option Row). cond (n q) o None) (get_chosen u T q) ∙ by q (fm.get T q) ∙ sym (get_chosen (λ k row. u k row && n k) T q))
  where
    pick : (a b : Bool) (r : Row) → cond b (cond a (Some r) None) None ≡ cond (a && b) (Some r) None
    pick true true r = refl
    pick true false r = refl
    pick false true r = refl
    pick false false r = refl

    by : (q : Row) (o : Option Row) → cond (n q) (cond (passes (u q) o) o None) None ≡ cond (passes (λ row. u q row && n q) o) o None
    by q None = none_of (n q)
    by q (Some r) = pick (u q r) (n q) r

-- a row that is chosen is one of the table
pub taken_row : (u : Test) (T : Table) (q row : Row) → fm.get (chosen u T) q ≡ Some row → fm.get T q ≡ Some row
taken_row u T q row e = by (fm.get T q) (sym (get_chosen u T q) ∙ e)
  where
    of_it : (b : Bool) (r : Row) → cond b (Some r) None ≡ Some row → Some r ≡ Some row
    of_it true r e = e
    of_it false r e = cc

    by : (o : Option Row) → cond (passes (u q) o) o None ≡ Some row → o ≡ Some row
    by None e = e
    by (Some r) e = of_it (u q r) r e

-- rows that are kept by their keys
pub retain_chosen : (n : Row → Bool) (T : Table) → fm.retain_keys T n ≡ chosen (λ q row. n q) T
retain_chosen n T = fm.same_map key_total key_exact (fm.retain_keys T n) (chosen (λ q row. n q) T) (λ q. get_retained T n q ∙ by q (fm.get T q) ∙ sym (get_chosen (λ k row. n k) T q))
  where
    by : (q : Row) (o : Option Row) → cond (n q) o None ≡ cond (passes (λ row. n q) o) o None
    by q None = none_of (n q)
    by q (Some r) = refl

module _ (S : TableState) (x : Target) (s : Kept) (hidden : Table) (keyed : HasOwnKeys S x.group) (held : (q : Row) → is_key x.group.keys q ≡ is_held s hidden q) where
  abbrev g : Group
  g = x.group

  abbrev T : Table
  T = table_at S x.group.def.tree.root.table

  abbrev R : Table
  R = root_rows S x.group.def.tree.root

  -- rows of the view that pass
  roots_chosen : (t : Row → Bool) (u : Test) → ((q row : Row) → fm.get R q ≡ Some row → t row ≡ u q row) → rows_where t R ≡ chosen (λ q row. selects x.group.def.tree.root.filter row && u q row) T
  roots_chosen t u same = fm.same_map key_total key_exact (rows_where t R) (chosen (λ q row. selects x.group.def.tree.root.filter row && u q row) T) (λ q.
      get_where t R q ∙ by q (fm.get T q) refl ∙ sym (get_chosen (λ k row. selects x.group.def.tree.root.filter row && u k row) T q))
    where
      there : (q : Row) (o : Option Row) → fm.get T q ≡ o → fm.get R q ≡ cond (passes (selects x.group.def.tree.root.filter) o) o None
      there q o e = get_where (selects x.group.def.tree.root.filter) T q ∙ ap (λ (o : Option Row). cond (passes (selects x.group.def.tree.root.filter) o) o None) e

      absent : (q : Row) → fm.get R q ≡ None → cond (passes t (fm.get R q)) (fm.get R q) None ≡ None
      absent q e = ap (λ (o : Option Row). cond (passes t o) o None) e

      of : (q r : Row) (b : Bool) → selects x.group.def.tree.root.filter r ≡ b → fm.get R q ≡ cond b (Some r) None → cond (passes t (fm.get R q)) (fm.get R q) None ≡ cond (b && u q r) (Some r) None
      of q r true e found = ap (λ (o : Option Row). cond (passes t o) o None) found ∙ ap (λ b. cond b (Some r) None) (same q r found)
      of q r false e found = absent q found

      by : (q : Row) (o : Option Row) → fm.get T q ≡ o → cond (passes t (fm.get R q)) (fm.get R q) None ≡ cond (passes (λ row. selects x.group.def.tree.root.filter row && u q row) o) o None
      by q None e = absent q (there q None e)
      by q (Some r) e = of q r (selects x.group.def.tree.root.filter r) refl (there q (Some r) e)

  in_front : (t : Row → Bool) → kept_at (instances_where S x.group.def.tree t) 0 ≡ rows_where t R
  in_front t = front_kept S x.group.def.tree.children (rows_where t R ∷ []) 0 (omega arith)

  -- the rows on which the condition is judged
  view_is : view_roots S x ≡ chosen (λ q row. is_past_row g row) T
  view_is = in_front (exceeds g) ∙ roots_chosen (exceeds g) (λ q row. exceeds g row) (λ q row e. refl)

  pub load_judged : (which : ResolvedWhich) → which.filter ≡ x.filter → overflows x.filter (view_roots S x) ≡ overflows_past false which g s hidden S
  load_judged which filter_is =
      ap (λ f. overflows f (view_roots S x)) (sym filter_is)
      ∙ ap (overflows which.filter) view_is
      ∙ any_chosen which.filter (λ q row. is_past_row g row) T
      ∙ (λ i. any_bad (λ q row. so (is_past_row g row) i && is_none (judges which.filter row)) T)
    where
      so : (b : Bool) → b ≡ (b && true)
      so true = refl
      so false = refl

  pub refresh_judged : (which : ResolvedWhich) → which.filter ≡ x.filter → overflows x.filter (held_roots x (view_roots S x)) ≡ overflows_past true which g s hidden S
  refresh_judged which filter_is =
      ap (λ f. overflows f (held_roots x (view_roots S x))) (sym filter_is)
      ∙ ap (λ m. overflows which.filter (held_roots x m)) view_is
      ∙ ap (overflows which.filter) (chosen_less (is_key g.keys) (λ q row. is_past_row g row) T)
      ∙ any_chosen which.filter (λ q row. is_past_row g row && is_key g.keys q) T
      ∙ (λ i. any_bad (λ q row. (is_past_row g row && held q i) && is_none (judges which.filter row)) T)

  -- the rows that match
  module _ (place : ℕ) (which : ResolvedWhich) (of : IsOfTarget x place which) where
    same_match : (q row : Row) → fm.get R q ≡ Some row → matches x.filter x.id S g row ≡ matches_at which q row
    same_match q row e =
        ap (λ f. is_true (judges f row) && is_id (root_key S g row) x.id) (sym of.filter)
        ∙ ap (λ k. is_true (judges which.filter row) && is_id k x.id) (keyed q row e)
        ∙ ap (λ b. is_true (judges which.filter row) && b) (sym (of.id q))

    past_is : matching_past S x ≡ chosen (λ q row. selects g.def.tree.root.filter row && (matches_at which q row && exceeds g row)) T
    past_is =
        in_front (λ row. matches x.filter x.id S g row && exceeds g row)
        ∙ roots_chosen (λ row. matches x.filter x.id S g row && exceeds g row) (λ q row. matches_at which q row && exceeds g row) (λ q row e. ap (λ b. b && exceeds g row) (same_match q row e))

    shuffled : (v m e h : Bool) → ((v && (m && e)) && h) ≡ ((v && e) && (m && h))
    shuffled false m e h = refl
    shuffled true false true h = refl
    shuffled true false false h = refl
    shuffled true true e h = refl

    -- LOAD gains these keys
    pub new_keys_are : new_keys x (matching_past S x) ≡ fm.keys (taken_in false which g s hidden S)
    new_keys_are =
        ap (new_keys x) past_is
        ∙ keys_less (λ q. not (is_key g.keys q)) (λ q row. selects g.def.tree.root.filter row && (matches_at which q row && exceeds g row)) T
        ∙ (λ i. fm.keys (chosen (λ q row. (selects g.def.tree.root.filter row && (matches_at which q row && exceeds g row)) && not (held q i)) T))
        ∙ (λ i. fm.keys (chosen (λ q row. shuffled (selects g.def.tree.root.filter row) (matches_at which q row) (exceeds g row) (not (is_held s hidden q)) i) T))

    -- REFRESH counts these
    pub held_are : held_roots x (matching_past S x) ≡ taken_in true which g s hidden S
    held_are =
        ap (held_roots x) past_is
        ∙ chosen_less (is_key g.keys) (λ q row. selects g.def.tree.root.filter row && (matches_at which q row && exceeds g row)) T
        ∙ (λ i. chosen (λ q row. (selects g.def.tree.root.filter row && (matches_at which q row && exceeds g row)) && held q i) T)
        ∙ (λ i. chosen (λ q row. shuffled (selects g.def.tree.root.filter row) (matches_at which q row) (exceeds g row) (is_held s hidden q) i) T)

    -- what matches is past the horizon
    pub matching_in_view : (q : Row) → is_key (fm.keys (matching_past S x)) q ≡ true → is_in_view S g q ≡ true
    matching_in_view q e =
        ap (λ (m : Table). fm.contains_key m q) view_is ∙ ap is_some (get_chosen (λ k row. is_past_row g row) T q)
        ∙ by (fm.get T q)
        (sym (ap (λ (m : Table). fm.contains_key m q) past_is ∙ ap is_some (get_chosen (λ k row. selects g.def.tree.root.filter row && (matches_at which k row && exceeds g row)) T q))
        ∙ sym (key_in_map (matching_past S x) q) ∙ e)
      where
        pick : (v m p : Bool) (r : Row) → is_some (cond (v && (m && p)) (Some r) None) ≡ true → is_some (cond (v && p) (Some r) None) ≡ true
        pick true true p r there = there
        pick true false true r there = refl
        pick true false false r there = there
        pick false m p r there = there

        by : (o : Option Row) → is_some (cond (passes (λ row. selects g.def.tree.root.filter row && (matches_at which q row && exceeds g row)) o) o None) ≡ true → is_some (cond (passes (λ row. is_past_row g row) o) o None) ≡ true
        by None there = there
        by (Some r) there = pick (selects g.def.tree.root.filter r) (matches_at which q r) (exceeds g r) r there
