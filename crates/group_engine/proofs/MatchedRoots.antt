-- The root rows of a store that match, and their keys.
use Rattle.std.proofs.Common.{◌≡◌, ℕ, suc, Bool, true, false, cond, ◌&&◌, Option, Some, None, is_none, List, [], ◌∷◌, filter, length, map, slice_get, refl, sym, ap, ◌∙◌}
use Rattle.std.proofs.lemmas.List.{length-map}
use Rattle.std.specs.FinMap as fm
use Rattle.row_types.specs.declared.value.Value.{Value}
use Rattle.tier_base.specs.declared.code.Code.TheVariants as code
use Rattle.expressions.specs.Trees.{Cond}
use Rattle.indexed_rows.specs.Rows.{Table, key_of}
use Rattle.evaluator.specs.Writes.{selects}
use Rattle.instances.specs.Views.{is_true, kept_at, passes, rows_where}
use Rattle.instances.proofs.Gathering.{entry_found}
use Rattle.session_state.proofs.ApartLaws.{any_false}
use Rattle.group_catalog.specs.declared.which.ResolvedWhich.{ResolvedWhich}
use Rattle.group_store.specs.Stores.{Kept}
use Rattle.cache_tier.specs.Conditions.{is_id, matches, overflow_fault, overflows}
use Rattle.cache_tier.specs.Groups.{is_key}
use Rattle.cache_tier.specs.Rules.{broken_if, plain}
use Rattle.cache_tier.specs.Shown.{no_rows, root_key, shown_roots}
use Rattle.cache_tier.specs.Targets.{Target}
use Rattle.cache_tier.specs.UnloadSteps.{matching_shown}
use Rattle.cache_tier.specs.Worlds.{World}
use Rattle.cache_tier.proofs.KeyListLaws.{key_in_map}
use Rattle.stored_tier.specs.declared.tier.Tier.{Tier as Stored}
use Rattle.stored_tier.specs.Choosing.{chosen, matches_at}
use Rattle.stored_tier.specs.Performing.{StandsFor}
use Rattle.stored_tier.specs.Stored.{IsSound}
use Rattle.stored_tier.proofs.GatherLaws.{entries_kept}
use Rattle.changed_sets.specs.OfAgingCycles.Shows.{roots_are}
use Rattle.group_engine.specs.Taking.{IsOfTarget}
use Rattle.group_engine.specs.Unloading.{leaving}
use Rattle.group_engine.proofs.MatchLaws.{retain_alike}

abbrev Row : Type 0
Row = List Value

-- keys of rows that match

filter_alike : {A : Type 0} (p q : A → Bool) (xs : List A) → ((i : ℕ) (x : A) → slice_get xs i ≡ Some x → p x ≡ q x) → filter p xs ≡ filter q xs
filter_alike p q [] same = refl
filter_alike p q (x ∷ xs) same =
    ap (λ b. cond b (x ∷ filter p xs) (filter p xs)) (same 0 x refl)
    ∙ ap (λ ys. cond (q x) (x ∷ ys) ys) (filter_alike p q xs (λ i y at. same (suc i) y at))

entries_chosen : (test : Row → Row → Bool) (table : Table) → fm.entries (chosen test table) ≡ filter (λ (e : Row × Row). test e.0 e.1) (fm.entries table)
entries_chosen test table =
    entries_kept table (λ key. passes (test key) (fm.get table key))
    ∙ filter_alike (λ (e : Row × Row). passes (test e.0) (fm.get table e.0)) (λ e. test e.0 e.1) (fm.entries table) (λ i e at. ap (passes (test e.0)) (entry_found table i e at))

keys_listed : (key : Row → Row) (m : Row → Row → Bool) (es : List (Row × Row)) → ((i : ℕ) (e : Row × Row) → slice_get es i ≡ Some e → key e.1 ≡ e.0)
    → map key (filter (λ row. m (key row) row) (map (λ (e : Row × Row). e.1) es)) ≡ map (λ (e : Row × Row). e.0) (filter (λ (e : Row × Row). m e.0 e.1) es)
keys_listed key m [] keyed = refl
keys_listed key m (e ∷ es) keyed =
    ap (λ k. map key (cond (m k e.1) (e.1 ∷ filter (λ row. m (key row) row) (map (λ (x : Row × Row). x.1) es)) (filter (λ row. m (key row) row) (map (λ (x : Row × Row). x.1) es)))) (keyed 0 e refl)
    ∙ by (m e.0 e.1) (keys_listed key m es (λ i x at. keyed (suc i) x at))
  where
    by : (b : Bool) → map key (filter (λ row. m (key row) row) (map (λ (x : Row × Row). x.1) es)) ≡ map (λ (x : Row × Row). x.0) (filter (λ (x : Row × Row). m x.0 x.1) es)
        → map key (cond b (e.1 ∷ filter (λ row. m (key row) row) (map (λ (x : Row × Row). x.1) es)) (filter (λ row. m (key row) row) (map (λ (x : Row × Row). x.1) es))) ≡ map (λ (x : Row × Row). x.0) (cond b (e ∷ filter (λ (x : Row × Row). m x.0 x.1) es) (filter (λ (x : Row × Row). m x.0 x.1) es))
    by true rest = λ i. keyed 0 e refl i ∷ rest i
    by false rest = rest

pub leaving_keys : (which : ResolvedWhich) (columns : List ℕ) (S : Table) → ((k r : Row) → fm.get S k ≡ Some r → key_of columns r ≡ k) → leaving which columns S ≡ fm.keys (chosen (matches_at which) S)
leaving_keys which columns S keyed =
    keys_listed (key_of columns) (matches_at which) (fm.entries S) (λ i e at. keyed e.0 e.1 (entry_found S i e at))
    ∙ ap (map (λ (e : Row × Row). e.0)) (sym (entries_chosen (matches_at which) S))

module _ (w : World) (x : Target) (place : ℕ) (which : ResolvedWhich) (of : IsOfTarget x place which) (S : Table) (columns : List ℕ) (roots : S ≡ shown_roots w.history w.tier.log x.group)
    (rooted : (k r : Row) → fm.get S k ≡ Some r → root_key (no_rows w.tier) x.group r ≡ k) (keyed : (k r : Row) → fm.get S k ≡ Some r → key_of columns r ≡ k) where
  same_match : (k r : Row) → fm.get S k ≡ Some r → matches x.filter x.id (no_rows w.tier) x.group r ≡ matches_at which k r
  same_match k r e =
      ap (λ f. is_true (selects f r) && is_id (root_key (no_rows w.tier) x.group r) x.id) (sym of.filter)
      ∙ ap (λ q. is_true (selects which.filter r) && is_id q x.id) (rooted k r e)
      ∙ ap (λ b. is_true (selects which.filter r) && b) (sym (of.id k))

  pub shown_matching : matching_shown w x ≡ chosen (matches_at which) S
  shown_matching =
      ap (rows_where (matches x.filter x.id (no_rows w.tier) x.group)) (sym roots)
      ∙ retain_alike S (λ key. passes (matches x.filter x.id (no_rows w.tier) x.group) (fm.get S key)) (λ key. passes (matches_at which key) (fm.get S key)) (λ k r e.
      ap (passes (matches x.filter x.id (no_rows w.tier) x.group)) e ∙ same_match k r e ∙ sym (ap (passes (matches_at which k)) e))

  pub leaving_is : (k : Row) → is_key (leaving which columns S) k ≡ fm.contains_key (matching_shown w x) k
  leaving_is k =
      ap (λ ks. is_key ks k) (leaving_keys which columns S keyed) ∙ key_in_map (chosen (matches_at which) S) k
      ∙ ap (λ (m : Table). fm.contains_key m k) (sym shown_matching)

  pub leaving_long : length (leaving which columns S) ≡ fm.len (matching_shown w x)
  leaving_long =
      ap length (leaving_keys which columns S keyed) ∙ length-map (fm.entries (chosen (matches_at which) S)) (λ (e : Row × Row). e.0)
      ∙ sym (fm.len-entries (chosen (matches_at which) S)) ∙ ap (λ (m : Table). fm.len m) (sym shown_matching)

-- 120 of the condition on a shown root
pub fits_is : (t : Stored) (w : World) → IsSound t → StandsFor t w → (x : Target) (place : ℕ) (which : ResolvedWhich) → slice_get w.tier.groups place ≡ Some x.group → IsOfTarget x place which → (store : Kept) → slice_get t.stores.items place ≡ Some store
    → overflow_fault x.filter (shown_roots w.history w.tier.log x.group) ≡ broken_if (overflows which.filter (kept_at store.tables 0)) (plain code.Overflow)
fits_is t w sound stands x place which at of store kept =
    ap (overflow_fault x.filter) (sym (roots_are t w sound stands place x.group at store kept))
    ∙ ap (λ f. broken_if (overflows f (kept_at store.tables 0)) (plain code.Overflow)) (sym of.filter)

-- where there is no condition it is 120 on none
pub none_past : (filter : Option Cond) (rows : Table) → is_none filter ≡ true → overflows filter rows ≡ false
none_past None rows none = any_false (λ row. is_none (selects None row)) (fm.values rows) (λ row. refl)
none_past (Some condition) rows none = cc
