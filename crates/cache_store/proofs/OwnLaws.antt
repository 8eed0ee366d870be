-- The instance of a root among a store's own rows.
use Rattle.std.proofs.Common.{◌≡◌, ℕ, zero, suc, ◌<◌, Bool, true, false, ◌&&◌, not, cond, Option, Some, None, is_some, List, [], ◌∷◌, ◌++◌, inl, inr, length, map, drop, slice_get, refl, sym, ap, ◌∙◌, arith}
use Rattle.std.specs.Option.{option_map}
use Rattle.std.specs.FinMap.{contains_key, get, get-retain_keys, retain_keys, same_map}
use Rattle.instances.specs.row_types.specs.declared.value.Value.{Value}
use Rattle.instances.specs.row_types.proofs.OrderLaws.{key_exact, key_total}
use Rattle.instances.specs.table_defs.specs.declared.definition.TableDef.{TableDef}
use Rattle.instances.specs.table_defs.specs.Declarations.{foreign_places}
use Rattle.instances.specs.indexed_rows.specs.Rows.{Table, is_same, key_of}
use Rattle.instances.specs.table_state.specs.Tables.{TableState, table_at}
use Rattle.instances.specs.declared.tree.Child.{Child}
use Rattle.instances.specs.declared.tree.Tree.{Tree}
use Rattle.instances.specs.Instances.{IsIn}
use Rattle.instances.specs.Roots.{root_at}
use Rattle.instances.specs.Views.{child_rows, instance_of, is_kept, kept_at, only, passes, refers_to_one, root_rows, selects, view_of, with_children}
use Rattle.instances.proofs.Gathering.{get_where}
use Rattle.instances.proofs.OnlyLaws.{get_only}
use Rattle.cache_store.specs.Shown.{has_root, tables_without, shown_of}
use Rattle.cache_store.specs.Owning.{DropsOwn, Owns, plain, plain_child}
use Rattle.cache_store.proofs.CoverLaws.{all_pass}
use Rattle.cache_store.proofs.JoinLaws.{get_less, length_less, same_tables}
use Rattle.cache_store.proofs.ShownLaws.{at_drop, at_end, at_front, gets_chosen, length_more, past_drop, shown_length, spot, to_end, to_front}

abbrev Row : Type 0
Row = List Value

-- what was kept stays
pub keeps : (s : TableState) (cs : List Child) (V : List Table) (i : ℕ) → i < length V → kept_at (with_children s cs V) i ≡ kept_at V i
keeps s [] V i h = refl
keeps s (c ∷ cs) V i h =
    let X = child_rows s (kept_at V c.parent) c in
    keeps s cs (V ++ X ∷ []) i (omega (arith, h, length_more V X)) ∙ at_front V X i h

abbrev Sub : List Table → List Table → Type 0
Sub I V = (i : ℕ) (q row : Row) → IsIn I i q row → IsIn V i q row

-- what refers to one of fewer rows refers to one of more
refers_more : (Pv Pi : Table) → ((q row : Row) → get Pi q ≡ Some row → get Pv q ≡ Some row) → (def : Option TableDef) (row : Row) → refers_to_one Pi def row ≡ true → refers_to_one Pv def row ≡ true
refers_more Pv Pi sub None row e = e
refers_more Pv Pi sub (Some def) row e = by (get Pi (key_of (foreign_places def.foreign_key) row)) refl
  where
    by : (f : Option Row) → get Pi (key_of (foreign_places def.foreign_key) row) ≡ f → contains_key Pv (key_of (foreign_places def.foreign_key) row) ≡ true
    by None is = let x : false ≡ true = sym (ap is_some is) ∙ e in cc
    by (Some r) is = ap is_some (sub (key_of (foreign_places def.foreign_key) row) r is)

twice : (a v : Bool) (f : Row → Bool) (row : Row) → (f row ≡ true → v ≡ true) → (b : Bool) → f row ≡ b → cond (passes (λ (r : Row). true && f r) (cond (a && v) (Some row) None)) (cond (a && v) (Some row) None) None ≡ cond (a && f row) (Some row) None
twice true true f row h b e = refl
twice true false f row h true e = let x : false ≡ true = h e in cc
twice true false f row h false e = sym (ap (λ b. cond b (Some row) None) e)
twice false v f row h b e = refl

both_refer : (a i v : Bool) (r row : Row) → (i ≡ true → v ≡ true) → cond (a && i) (Some r) None ≡ Some row → cond (a && v) (Some r) None ≡ Some row
both_refer true true v r row h e = ap (λ b. cond b (Some r) None) (h refl) ∙ e
both_refer true false v r row h e = cc
both_refer false i v r row h e = cc

module _ (own s : TableState) (tree : Tree) (p : Row → Bool) (o : Owns own s tree (shown_of s tree p)) where
  module _ (c : Child) (Pv Pi : Table) (sub : (q row : Row) → get Pi q ≡ Some row → get Pv q ≡ Some row) (here : table_at own c.table ≡ child_rows s Pv c) where
    child_same : child_rows own Pi (plain_child c) ≡ child_rows s Pi c
    child_same = same_map key_total key_exact (child_rows own Pi (plain_child c)) (child_rows s Pi c) (λ q.
        get_where (is_kept own Pi (plain_child c)) (table_at own c.table) q
        ∙ ap (λ (t : Table). cond (passes (is_kept own Pi (plain_child c)) (get t q)) (get t q) None) here
        ∙ ap (λ (v : Option Row). cond (passes (is_kept own Pi (plain_child c)) v) v None) (get_where (is_kept s Pv c) (table_at s c.table) q)
        ∙ ap (λ (schema : List TableDef). cond (passes (λ (r : Row). true && refers_to_one Pi (slice_get schema c.table.0) r) (cond (passes (is_kept s Pv c) (get (table_at s c.table) q)) (get (table_at s c.table) q) None)) (cond (passes (is_kept s Pv c) (get (table_at s c.table) q)) (get (table_at s c.table) q) None) None) o.schema
        ∙ by q (get (table_at s c.table) q)
        ∙ sym (get_where (is_kept s Pi c) (table_at s c.table) q))
      where
        by : (q : Row) (v : Option Row) → cond (passes (λ (r : Row). true && refers_to_one Pi (slice_get s.schema c.table.0) r) (cond (passes (is_kept s Pv c) v) v None)) (cond (passes (is_kept s Pv c) v) v None) None ≡ cond (passes (is_kept s Pi c) v) v None
        by q None = refl
        by q (Some row) = twice (selects c.filter row) (refers_to_one Pv (slice_get s.schema c.table.0) row) (refers_to_one Pi (slice_get s.schema c.table.0)) row (refers_more Pv Pi sub (slice_get s.schema c.table.0) row) (refers_to_one Pi (slice_get s.schema c.table.0) row) refl

  steps : (cs : List Child) (d : ℕ) (V I : List Table) → drop d tree.children ≡ cs → length V ≡ suc d → length I ≡ suc d → with_children s cs V ≡ shown_of s tree p → Sub I V → with_children own (map plain_child cs) I ≡ with_children s cs I
  steps [] d V I at lv li whole sub = refl
  steps (c ∷ cs) d V I at lv li whole sub =
      let X = child_rows s (kept_at V c.parent) c in
      let Y = child_rows s (kept_at I c.parent) c in
      let spot_of : table_at own c.table ≡ X = o.rows (suc d) c.table (ap (option_map (λ (k : Child). k.table)) (at_drop tree.children d c cs at)) ∙ ap (λ l. kept_at l (suc d)) (sym whole) ∙ keeps s cs (V ++ X ∷ []) (suc d) (omega (arith, lv, length_more V X)) ∙ ap (kept_at (V ++ X ∷ [])) (sym lv) ∙ at_end V X in
      let same : child_rows own (kept_at I c.parent) (plain_child c) ≡ Y = child_same c (kept_at V c.parent) (kept_at I c.parent) (sub c.parent) spot_of in
      ap (λ t. with_children own (map plain_child cs) (I ++ t ∷ [])) same
      ∙ steps cs (suc d) (V ++ X ∷ []) (I ++ Y ∷ []) (past_drop tree.children d c cs at) (length_more V X ∙ ap suc lv) (length_more I Y ∙ ap suc li) whole (more V I X Y (lv ∙ sym li) sub (below c (kept_at V c.parent) (kept_at I c.parent) (sub c.parent)))
    where
      more : (V I : List Table) (X Y : Table) → length V ≡ length I → Sub I V → ((q row : Row) → get Y q ≡ Some row → get X q ≡ Some row) → Sub (I ++ Y ∷ []) (V ++ X ∷ [])
      more V I X Y len sub last i q row e = elim (spot I Y i q row e) [
        | inl h ↦ to_front V X i q row (sub i q row h)
        | inr h ↦ to_end V X i q row (h.0 ∙ sym len) (last q row h.1)
      ]

      below : (c : Child) (Pv Pi : Table) → ((q row : Row) → get Pi q ≡ Some row → get Pv q ≡ Some row) → (q row : Row) → get (child_rows s Pi c) q ≡ Some row → get (child_rows s Pv c) q ≡ Some row
      below c Pv Pi sub q row e = get_where (is_kept s Pv c) (table_at s c.table) q ∙ by (get (table_at s c.table) q) (sym (get_where (is_kept s Pi c) (table_at s c.table) q) ∙ e)
        where
          by : (v : Option Row) → cond (passes (is_kept s Pi c) v) v None ≡ Some row → cond (passes (is_kept s Pv c) v) v None ≡ Some row
          by None h = cc
          by (Some r) h = both_refer (selects c.filter r) (refers_to_one Pi (slice_get s.schema c.table.0) r) (refers_to_one Pv (slice_get s.schema c.table.0) r) r row (refers_more Pv Pi sub (slice_get s.schema c.table.0) r) h

  module _ (root : Row) where
    both : Row → Bool
    both = λ k. p k && is_same k root

    abbrev R : Table
    R = root_rows s tree.root

    first_is : root_rows own (plain tree).root ≡ retain_keys R p
    first_is =
        all_pass (selects None) (table_at own tree.root.table) (λ key row is. refl) ∙ o.rows 0 tree.root.table refl
        ∙ keeps s tree.children (retain_keys R p ∷ []) 0 (omega arith)

    get_both : (q : Row) → get (retain_keys R (λ k. p k && is_same k root)) q ≡ cond (p q && is_same q root) (get R q) None
    get_both q = get-retain_keys R (λ k. p k && is_same k root) q (λ x tie. ap (λ k. p k && is_same k root) (sym (key_exact q x tie)))

    get_one : (q : Row) → get (retain_keys R p) q ≡ cond (p q) (get R q) None
    get_one q = get-retain_keys R p q (λ x tie. ap p (sym (key_exact q x tie)))

    swap : (a b : Bool) (v : Option Row) → cond b (cond a v None) None ≡ cond (a && b) v None
    swap true b v = refl
    swap false true v = refl
    swap false false v = refl

    root_same : only root (root_rows own (plain tree).root) ≡ retain_keys R (λ k. p k && is_same k root)
    root_same = ap (only root) first_is ∙ same_map key_total key_exact (only root (retain_keys R p)) (retain_keys R (λ k. p k && is_same k root)) (λ q. get_only root (retain_keys R p) q ∙ ap (λ v. cond (is_same q root) v None) (get_one q) ∙ swap (p q) (is_same q root) (get R q) ∙ sym (get_both q))

    first_sub : Sub (retain_keys R (λ k. p k && is_same k root) ∷ []) (retain_keys R p ∷ [])
    first_sub zero q row e = get_one q ∙ part (p q) (is_same q root) (get R q) (sym (get_both q) ∙ e)
      where
        part : (a b : Bool) (v : Option Row) → cond (a && b) v None ≡ Some row → cond a v None ≡ Some row
        part true true v h = h
        part true false v h = cc
        part false b v h = cc
    first_sub (suc i) q row e = e

    instance_is : instance_of own (plain tree) root ≡ shown_of s tree (λ k. p k && is_same k root)
    instance_is =
        ap (λ t. with_children own (map plain_child tree.children) (t ∷ [])) root_same
        ∙ steps tree.children 0 (retain_keys R p ∷ []) (retain_keys R (λ k. p k && is_same k root) ∷ []) refl refl refl refl first_sub

    rest_not : (r v : Option Row) → cond (is_some (cond (has_root (λ k. p k && is_same k root) r) v None)) None (cond (has_root p r) v None) ≡ cond (has_root (λ k. p k && not (is_same k root)) r) v None
    rest_not None v = refl
    rest_not (Some x) v = by (p x) (is_same x root) v
      where
        by : (a b : Bool) (v : Option Row) → cond (is_some (cond (a && b) v None)) None (cond a v None) ≡ cond (a && not b) v None
        by true true None = refl
        by true true (Some x) = refl
        by true false v = refl
        by false b v = refl

    drop_is : tables_without (shown_of s tree p) (instance_of own (plain tree) root) ≡ shown_of s tree (λ k. p k && not (is_same k root))
    drop_is =
        let q : Row → Bool = λ k. p k && is_same k root in
        let long : length (shown_of s tree p) ≡ length (shown_of s tree q) = shown_length s tree p ∙ sym (shown_length s tree q) in
        ap (tables_without (shown_of s tree p)) instance_is
        ∙ same_tables (tables_without (shown_of s tree p) (shown_of s tree q)) (shown_of s tree (λ k. p k && not (is_same k root))) (length_less (shown_of s tree p) (shown_of s tree q) long ∙ shown_length s tree p ∙ sym (shown_length s tree (λ k. p k && not (is_same k root))))
        (λ i key. get_less (shown_of s tree p) (shown_of s tree q) long i key
        ∙ ap (λ v. cond (is_some (get (kept_at (shown_of s tree q) i) key)) None v) (gets_chosen s tree p i key) ∙ ap (λ v. cond (is_some v) None (cond (has_root p (root_at s tree i key)) (get (kept_at (view_of s tree) i) key) None)) (gets_chosen s tree q i key)
        ∙ rest_not (root_at s tree i key) (get (kept_at (view_of s tree) i) key) ∙ sym (gets_chosen s tree (λ k. p k && not (is_same k root)) i key))

pub drops_own : (own s : TableState) (tree : Tree) → DropsOwn own s tree
drops_own own s tree p root o = (instance_is own s tree p o root, drop_is own s tree p o root)
