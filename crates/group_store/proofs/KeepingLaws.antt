-- What calls leave of what a group shows.
use Rattle.std.proofs.Common.{◌≡◌, ℕ, zero, suc, ◌≤◌, Bool, true, false, not, cond, ◌&&◌, ◌||◌, List, [], length, map, slice_get, Option, Some, None, is_some, unwrap_or, refl, sym, ap, ◌∙◌, arith}
use Rattle.std.proofs.lemmas.List.{length-map}
use Rattle.std.specs.Option.{option_and_then, option_map}
use Rattle.std.specs.FinMap as fm
use Rattle.slot_rows.specs.row_types.specs.declared.value.Value.{Value}
use Rattle.slot_rows.specs.indexed_rows.proofs.MapLaws.{slice_get_map}
use Rattle.cache_store.specs.table_defs.specs.declared.definition.TableDef.{TableDef}
use Rattle.cache_store.specs.table_defs.specs.Declarations.{foreign_places}
use Rattle.slot_rows.specs.indexed_rows.specs.Rows.{Table, is_same, key_of}
use Rattle.slot_rows.specs.indexed_rows.proofs.EntryLaws.{same_values}
use Rattle.cache_store.specs.table_state.specs.Tables.{TableState, table_at}
use Rattle.cache_store.specs.instances.specs.declared.tree.Tree.{Tree}
use Rattle.cache_store.specs.instances.specs.Instances.{IsIn}
use Rattle.cache_store.specs.instances.specs.Roots.{parent_key, root_at, root_within}
use Rattle.cache_store.specs.instances.specs.Views.{kept_at, view_of}
use Rattle.cache_store.specs.Shown.{has_root, shown_of}
use Rattle.cache_store.proofs.AboveLaws.{above}
use Rattle.cache_store.proofs.InsertLaws.{nat_eq_other}
use Rattle.cache_store.proofs.ShownLaws.{gets_chosen, place_within, shown_length, view_rooted}
use Rattle.group_store.specs.Keeping.{KeepsOthers, layer_for}
use Rattle.group_store.specs.Shown.{foreign_key_of}
use Rattle.group_store.specs.Trees.{Layer, cut_from, is_top, leads, parent_of, passes_up}
use Rattle.group_store.proofs.TreeLaws.{keep_is, parent_is}

abbrev Row : Type 0
Row = List Value

-- what is shown is in the view
in_view : (b : Bool) (v : Option Row) (row : Row) → cond b v None ≡ Some row → v ≡ Some row
in_view true v row e = e
in_view false v row e = cc

or_false : (b : Bool) → (b || false) ≡ b
or_false true = refl
or_false false = refl

and_true : (b : Bool) → (b && true) ≡ b
and_true true = refl
and_true false = refl

module _ (s : TableState) (tree : Tree) (p : Row → Bool) (root : Row) where
  abbrev shown : List Table
  shown = shown_of s tree p

  abbrev layers : List Layer
  layers = map (layer_for s.schema) tree.children

  abbrev Rooted : ℕ → Row → Row → Type 0
  Rooted place key r = (m : ℕ) → place ≤ m → root_within m s tree place key ≡ Some r

  rooted : (place : ℕ) (key row : Row) → IsIn shown place key row → (r : Row) × Rooted place key r
  rooted place key row e = view_rooted s tree place key row (in_view (has_root p (root_at s tree place key)) (fm.get (kept_at (view_of s tree) place) key) row (sym (gets_chosen s tree p place key) ∙ e))

  -- a root row leads to the root of its own key alone
  top_led : (key row r : Row) → IsIn shown 0 key row → key ≡ r → is_top shown 0 root 0 key ≡ is_same r root
  top_led key row r e same = by (is_same key root) refl ∙ ap (λ k. is_same k root) same
    where
      by : (b : Bool) → is_same key root ≡ b → (is_same key root && fm.contains_key (kept_at shown 0) root) ≡ is_same key root
      by true t = ap (λ b. is_same key root && b) (ap is_some (ap (fm.get (kept_at shown 0)) (sym (same_values key root t)) ∙ e)) ∙ and_true (is_same key root)
      by false t = ap (λ b. b && fm.contains_key (kept_at shown 0) root) t ∙ sym t

  its_own : (key r : Row) → Rooted 0 key r → key ≡ r
  its_own key r at = by (fm.contains_key (table_at s tree.root.table) key) (at 0 (omega arith))
    where
      by : (b : Bool) → cond b (Some key) None ≡ Some r → key ≡ r
      by true e = cc
      by false e = cc

  led : (n place : ℕ) (key row r : Row) → place ≤ n → IsIn shown place key row → Rooted place key r → leads layers shown 0 root n place key ≡ is_same r root
  led zero zero key row r le e at = top_led key row r e (its_own key r at)
  led (suc n) zero key row r le e at = or_false (is_top shown 0 root 0 key) ∙ top_led key row r e (its_own key r at)
  led zero (suc i) key row r le e at = absurd (omega (arith, le))
  led (suc n) (suc i) key row r le e at =
      let a = above s tree p i key row e in
      let up = key_of (foreign_places a.definition.foreign_key) row in
      let foreign : foreign_key_of s.schema a.child.table ≡ foreign_places a.definition.foreign_key = ap (λ o. unwrap_or (option_map (λ (def : TableDef). foreign_places def.foreign_key) o) []) a.is in
      let layer = slice_get_map (layer_for s.schema) tree.children i a.child a.there in
      let names = parent_is layers shown i (layer_for s.schema a.child) key row layer e ∙ ap (λ f. Some (a.child.parent, key_of f row)) foreign in
      let parent : parent_key s a.child key ≡ Some up = ap (λ o. option_and_then (λ row. option_map (λ def. key_of (foreign_places def.foreign_key) row) (slice_get s.schema a.child.table.0)) o) a.found ∙ ap (option_map (λ def. key_of (foreign_places def.foreign_key) row)) a.is in
      let step : root_within (suc i) s tree (suc i) key ≡ root_within i s tree a.child.parent up =
      ap (option_and_then (λ child. option_and_then (root_within i s tree child.parent) (parent_key s child key))) a.there ∙ ap (option_and_then (root_within i s tree a.child.parent)) parent in
      let its = rooted a.child.parent up a.parent a.parent_there in
      let both : Some its.0 ≡ Some r = sym (its.1 i a.before) ∙ sym step ∙ at (suc i) (omega arith) in
      let same : its.0 ≡ r = cc in
      ap (λ b. (b && is_same key root && fm.contains_key (kept_at shown 0) root) || passes_up (leads layers shown 0 root n) (parent_of layers shown (suc i) key)) (nat_eq_other (suc i) 0 (λ z. absurd (omega (arith, z))))
      ∙ ap (passes_up (leads layers shown 0 root n)) names
      ∙ led n a.child.parent up a.parent its.0 (omega (arith, a.before, le)) a.parent_there its.1 ∙ ap (λ k. is_same k root) same

  none_left : (x : Option Row) (v : Option Row) → cond (has_root p x) v None ≡ None → cond (has_root (λ k. p k && not (is_same k root)) x) v None ≡ None
  none_left None v e = refl
  none_left (Some x) v e = by (p x) (is_same x root) e
    where
      by : (a b : Bool) → cond a v None ≡ None → cond (a && not b) v None ≡ None
      by true true e = refl
      by true false e = e
      by false b e = refl

  one_left : (r : Row) (v : Option Row) (row : Row) → cond (p r) v None ≡ Some row → cond (not (is_same r root)) (Some row) None ≡ cond (p r && not (is_same r root)) v None
  one_left r v row e = by (p r) e
    where
      by : (a : Bool) → cond a v None ≡ Some row → cond (not (is_same r root)) (Some row) None ≡ cond (a && not (is_same r root)) v None
      by true e = ap (λ o. cond (not (is_same r root)) o None) (sym e)
      by false e = cc

  same_none : (b : Bool) → ◌≡◌ {A = Option Row} (cond b None None) None
  same_none true = refl
  same_none false = refl

  others_stay : cut_from layers shown 0 root ≡ shown_of s tree (λ k. p k && not (is_same k root))
  others_stay =
      keep_is (λ place key. not (leads layers shown 0 root (length layers) place key)) shown (shown_of s tree (λ k. p k && not (is_same k root))) (shown_length s tree p ∙ sym (shown_length s tree (λ k. p k && not (is_same k root)))) (λ place key. by place key (fm.get (kept_at shown place) key) refl)
    where
      by : (place : ℕ) (key : Row) (o : Option Row) → fm.get (kept_at shown place) key ≡ o
          → cond (not (leads layers shown 0 root (length layers) place key)) (fm.get (kept_at shown place) key) None ≡ fm.get (kept_at (shown_of s tree (λ k. p k && not (is_same k root))) place) key
      by place key None e =
          ap (λ o. cond (not (leads layers shown 0 root (length layers) place key)) o None) e ∙ same_none (not (leads layers shown 0 root (length layers) place key))
          ∙ sym (gets_chosen s tree (λ k. p k && not (is_same k root)) place key ∙ none_left (root_at s tree place key) (fm.get (kept_at (view_of s tree) place) key) (sym (gets_chosen s tree p place key) ∙ e))
      by place key (Some row) e =
          let seen = in_view (has_root p (root_at s tree place key)) (fm.get (kept_at (view_of s tree) place) key) row (sym (gets_chosen s tree p place key) ∙ e) in
          let low = place_within s tree place key row seen in
          let r = rooted place key row e in
          let at = r.1 (length tree.children) low in
          let long = length-map tree.children (layer_for s.schema) in
          let is = led (length layers) place key row r.0 (omega (arith, low, long)) e r.1 in
          ap (λ b. cond (not b) (fm.get (kept_at shown place) key) None) is ∙ ap (λ o. cond (not (is_same r.0 root)) o None) e
          ∙ one_left r.0 (fm.get (kept_at (view_of s tree) place) key) row (ap (λ x. cond (has_root p x) (fm.get (kept_at (view_of s tree) place) key) None) (sym at) ∙ sym (gets_chosen s tree p place key) ∙ e)
          ∙ sym (gets_chosen s tree (λ k. p k && not (is_same k root)) place key ∙ ap (λ x. cond (has_root (λ k. p k && not (is_same k root)) x) (fm.get (kept_at (view_of s tree) place) key) None) at)

pub keeps_others : (s : TableState) (tree : Tree) → KeepsOthers s tree
keeps_others s tree p root k keeps = record {
  form = record { table = keeps.form.table; key = keeps.form.key; foreign = keeps.form.foreign; layers = keeps.form.layers };
  tables = ap (λ ls. cut_from ls k.tables 0 root) keeps.form.layers ∙ ap (λ ts. cut_from (map (layer_for s.schema) tree.children) ts 0 root) keeps.tables ∙ others_stay s tree p root;
}
