-- An instance of a state whose rows stand under their keys, put into a store that shows others.
use Rattle.std.proofs.Common.{◌≡◌, ℕ, zero, suc, ◌+◌, Bool, true, false, cond, List, [], ◌∷◌, slice_get, Option, Some, None, refl, sym, ap, subst, ◌∙◌, arith}
use Rattle.std.specs.Option.{option_map}
use Rattle.std.specs.FinMap as fm
use Rattle.row_types.specs.declared.value.Value.{Value}
use Rattle.row_types.proofs.OrderLaws.{key_exact}
use Rattle.tier_base.specs.declared.number.TableId.{TableId}
use Rattle.indexed_rows.specs.Rows.{Table, key_of}
use Rattle.table_state.specs.Tables.{TableState, table_at}
use Rattle.instances.specs.declared.tree.Child.{Child}
use Rattle.instances.specs.declared.tree.Tree.{Tree}
use Rattle.instances.specs.Trees.{is_sound, table_of}
use Rattle.instances.specs.Views.{kept_at, passes, root_rows, selects}
use Rattle.instances.proofs.Gathering.{get_where}
use Rattle.slot_rows.specs.SlotKeys.{IsKeyedBy}
use Rattle.cache_store.specs.Shown.{shown_of}
use Rattle.cache_store.proofs.AboveLaws.{above}
use Rattle.cache_store.proofs.OwnLaws.{keeps}
use Rattle.group_store.specs.Keeping.{IsFor}
use Rattle.group_store.specs.Stores.{Kept}
use Rattle.group_store.specs.Trees.{key_at}
use Rattle.group_store.proofs.FormLaws.{defined, key_for, primary}
use Rattle.stored_tier.proofs.PutLaws.{AreKeyed}
use Rattle.changed_sets.specs.Told.{AreUnderKeys}

abbrev Row : Type 0
Row = List Value

module _ (s : TableState) (tree : Tree) (is : AreUnderKeys s) (sound : is_sound s.schema tree ≡ true) (k : Kept) (form : IsFor s.schema tree k) (q : Row → Bool) where
  pub under : (place : ℕ) (t : TableId) → table_of tree place ≡ Some t → (key row : Row) → fm.get (table_at s t) key ≡ Some row → key_of (key_at k.key k.layers place) row ≡ key
  under place t there key row found =
      let d = defined s.schema tree sound place t there in
      ap (λ ps. key_of ps row) (key_for s.schema tree k form place t there ∙ primary s.schema t d.0 d.1) ∙ is t d.0 d.1 key row found

  in_table : (b : Bool) (v : Option Row) (row : Row) → cond b v None ≡ Some row → v ≡ Some row
  in_table true v row e = e
  in_table false v row e = cc

  shown_keyed : (place : ℕ) → IsKeyedBy (key_at k.key k.layers place) (kept_at (shown_of s tree q) place)
  shown_keyed zero key row e =
      let R = root_rows s tree.root in
      let first = ap (λ t. fm.get t key) (sym (keeps s tree.children (fm.retain_keys R q ∷ []) 0 (omega arith))) ∙ e in
      let kept = in_table (q key) (fm.get R key) row (sym (fm.get-retain_keys R q key (λ x tie. ap q (sym (key_exact key x tie)))) ∙ first) in
      let found = in_table (passes (selects tree.root.filter) (fm.get (table_at s tree.root.table) key)) (fm.get (table_at s tree.root.table) key) row (sym (get_where (selects tree.root.filter) (table_at s tree.root.table) key) ∙ kept) in
      under 0 tree.root.table refl key row found
  shown_keyed (suc i) key row e =
      let a = above s tree q i key row e in
      under (suc i) a.child.table (ap (option_map (λ (c : Child). c.table)) a.there) key row a.found

  at_place_of : (bs : List Table) (i : ℕ) (b : Table) → slice_get bs i ≡ Some b → kept_at bs i ≡ b
  at_place_of [] i b e = cc
  at_place_of (x ∷ bs) zero b e = let z : x ≡ b = cc in z
  at_place_of (x ∷ bs) (suc i) b e = at_place_of bs i b e

  pub are_keyed : AreKeyed 0 (shown_of s tree q) k
  are_keyed i b at = let z : 0 + i ≡ i = omega arith in subst (IsKeyedBy (key_at k.key k.layers (0 + i))) (at_place_of (shown_of s tree q) i b at) (subst (λ p. IsKeyedBy (key_at k.key k.layers p) (kept_at (shown_of s tree q) i)) (sym z) (shown_keyed i))
