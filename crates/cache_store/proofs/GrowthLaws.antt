-- What is shown after a row has come.
use Rattle.std.proofs.Common.{◌≡◌, ℕ, zero, suc, Bool, true, false, ◌&&◌, cond, Option, Some, None, is_some, List, length, slice_get, nat_eq, refl, sym, ap, ◌∙◌}
use Rattle.std.proofs.lemmas.Bool.{eqb-true}
use Rattle.std.proofs.lemmas.Option.{option_and_then_some}
use Rattle.std.specs.Option.{option_and_then, option_map}
use Rattle.std.specs.Ordering.{is_eq}
use Rattle.std.specs.declared.cmp.Ordering.{Ordering}
use Rattle.std.specs.declared.cmp.Ordering.TheVariants.{Less, Equal, Greater}
use Rattle.std.specs.FinMap.{get}
use Rattle.instances.specs.row_types.specs.declared.value.Value.{Value}
use Rattle.instances.specs.row_types.specs.Order.{key_order}
use Rattle.instances.specs.row_types.proofs.OrderLaws.{key_exact}
use Rattle.instances.specs.table_defs.specs.declared.definition.TableDef.{TableDef}
use Rattle.instances.specs.table_defs.specs.Declarations.{foreign_places}
use Rattle.instances.specs.indexed_rows.specs.Rows.{is_same, key_of}
use Rattle.instances.specs.table_state.specs.Tables.{TableState, table_at}
use Rattle.instances.specs.declared.tree.Child.{Child}
use Rattle.instances.specs.declared.tree.Tree.{Tree}
use Rattle.instances.specs.Roots.{parent_key, root_at, root_within}
use Rattle.instances.specs.Views.{kept_at, view_of}
use Rattle.cache_store.specs.Shown.{has_root, shown_of}
use Rattle.cache_store.specs.Growing.{Agree, GainsRow, ShowsMore, is_new}
use Rattle.cache_store.proofs.ShownLaws.{gets_chosen, view_root}

abbrev Row : Type 0
Row = List Value

module _ (s new : TableState) (tree : Tree) (at : ℕ) (key row : Row) (g : GainsRow s new tree at key row) where
  -- a row that is there still names its parent
  parent_stays : (c : Child) (q above : Row) → parent_key s c q ≡ Some above → parent_key new c q ≡ Some above
  parent_stays c q above e =
      option_and_then_some (λ (r : Row). option_map (λ (def : TableDef). key_of (foreign_places def.foreign_key) r) (slice_get s.schema c.table.0)) (get (table_at s c.table) q) above e (λ found is h.
      ap (option_and_then (λ (r : Row). option_map (λ (def : TableDef). key_of (foreign_places def.foreign_key) r) (slice_get new.schema c.table.0))) (g.more c.table q found is)
      ∙ ap (λ (schema : List TableDef). option_map (λ (def : TableDef). key_of (foreign_places def.foreign_key) found) (slice_get schema c.table.0)) g.schema ∙ h)

  -- and is reached from its root
  root_stays : (n j : ℕ) (q root : Row) → root_within n s tree j q ≡ Some root → root_within n new tree j q ≡ Some root
  root_stays n zero q root e = by (get (table_at s tree.root.table) q) refl e
    where
      by : (o : Option Row) → get (table_at s tree.root.table) q ≡ o → cond (is_some o) (Some q) None ≡ Some root → cond (is_some (get (table_at new tree.root.table) q)) (Some q) None ≡ Some root
      by None is h = cc
      by (Some found) is h = ap (λ o. cond (is_some o) (Some q) None) (g.more tree.root.table q found is) ∙ h
  root_stays zero (suc j) q root e = cc
  root_stays (suc n) (suc j) q root e =
      option_and_then_some (λ (c : Child). option_and_then (root_within n s tree c.parent) (parent_key s c q)) (slice_get tree.children j) root e (λ c is h.
      option_and_then_some (root_within n s tree c.parent) (parent_key s c q) root h (λ above up k.
      ap (option_and_then (λ (c : Child). option_and_then (root_within n new tree c.parent) (parent_key new c q))) is
      ∙ ap (option_and_then (root_within n new tree c.parent)) (parent_stays c q above up)
      ∙ root_stays n c.parent above root k))

  module _ (p q : Row → Bool) (agree : Agree s tree p q) (passes : has_root q (root_at new tree at key) ≡ true) (place : ℕ) (other : Row) where
    abbrev seen : Option Row
    seen = get (kept_at (view_of s tree) place) other

    abbrev wanted : Option Row
    wanted = cond (is_new at key place other) (Some row) (get (kept_at (shown_of s tree p) place) other)

    shown_is : get (kept_at (shown_of new tree q) place) other ≡ cond (has_root q (root_at new tree place other)) (cond (is_new at key place other) (Some row) seen) None
    shown_is = gets_chosen new tree q place other ∙ ap (λ v. cond (has_root q (root_at new tree place other)) v None) (g.view place other)

    same_key : is_same other key ≡ true → other ≡ key
    same_key e = by (key_order other key) refl e
      where
        by : (o : Ordering) → key_order other key ≡ o → is_eq o ≡ true → other ≡ key
        by Less tie h = cc
        by Equal tie h = key_exact other key tie
        by Greater tie h = cc

    -- the row that came
    came : (a b : Bool) → nat_eq at place ≡ a → is_same other key ≡ b → (a && b) ≡ true → has_root q (root_at new tree place other) ≡ true
    came true b x y e = let i : at ≡ place = eqb-true at place x in let k : other ≡ key = same_key (y ∙ e) in (λ j. has_root q (root_at new tree (sym i j) (k j))) ∙ passes
    came false b x y e = cc

    -- another row
    none_same : (b : Bool) → ◌≡◌ {A = Option Row} (cond b None None) None
    none_same true = refl
    none_same false = refl

    stays : (v : Option Row) → seen ≡ v → cond (has_root q (root_at new tree place other)) seen None ≡ get (kept_at (shown_of s tree p) place) other
    stays None is =
        ap (λ v. cond (has_root q (root_at new tree place other)) v None) is ∙ none_same (has_root q (root_at new tree place other))
        ∙ sym (gets_chosen s tree p place other ∙ ap (λ v. cond (has_root p (root_at s tree place other)) v None) is ∙ none_same (has_root p (root_at s tree place other)))
    stays (Some found) is =
        let r = view_root s tree place other found is in
        ap (λ o. cond (has_root q o) seen None) (root_stays (length tree.children) place other r.0 r.1) ∙ ap (λ b. cond b seen None) (agree place other r.0 found is r.1)
        ∙ sym (gets_chosen s tree p place other ∙ ap (λ o. cond (has_root p o) seen None) r.1)

    decided : (b : Bool) → is_new at key place other ≡ b → get (kept_at (shown_of new tree q) place) other ≡ wanted
    decided true e =
        shown_is ∙ ap (λ b. cond b (cond (is_new at key place other) (Some row) seen) None) (came (nat_eq at place) (is_same other key) refl refl e) ∙ ap (λ b. cond b (Some row) seen) e
        ∙ sym (ap (λ b. cond b (Some row) (get (kept_at (shown_of s tree p) place) other)) e)
    decided false e =
        shown_is ∙ ap (λ b. cond (has_root q (root_at new tree place other)) (cond b (Some row) seen) None) e ∙ stays seen refl
        ∙ sym (ap (λ b. cond b (Some row) (get (kept_at (shown_of s tree p) place) other)) e)

pub shows_more : (s new : TableState) (tree : Tree) → ShowsMore s new tree
shows_more s new tree at key row g p q agree passes place other = decided s new tree at key row g p q agree passes place other (is_new at key place other) refl
