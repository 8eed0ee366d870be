use Rattle.std.proofs.Common.{◌≡◌, ◌≤◌, ◌++◌, [], ◌∷◌, length, map, slice_get, List, refl, sym, ap, subst, ◌∙◌, arith}
use Rattle.std.proofs.lemmas.List.{length-map}
use Rattle.std.specs.FinMap as fm
use Rattle.slot_rows.specs.row_types.specs.declared.value.Value.{Value}
use Rattle.slot_rows.specs.row_types.specs.Order.{key_order}
use Rattle.group_store.specs.Trees.{key_at}
use Rattle.group_store.specs.Joined.{IsJoined, layer_of}
use Rattle.group_store.specs.declared.tree_rows.ChildRows.{ChildRows}
use Rattle.group_store.specs.declared.tree_rows.TreeRows.{TreeRows}
use Rattle.group_store.proofs.JoinedLaws.{joined_kept, joined_more}
use Rattle.group_store.proofs.store.Store.add_child.Goals as goal

pub add_order-requires-clause-empty : goal.add_order-requires-clause-empty
add_order-requires-clause-empty c = ap fm.len c.new-rows.ensures.table ∙ fm.len-empty key_order (List Value)

pub add_order-requires-clause-wider : goal.add_order-requires-clause-wider
add_order-requires-clause-wider c = (c.args.foreign, c.in_ok-columns.ensures ∙ ap (λ f. f ++ c.as_slice-2.result.now) c.as_slice.ensures ∙ ap (λ ps. c.args.foreign ++ ps) (c.as_slice-2.ensures ∙ sym c.new-rows.ensures.places))

pub invariant_of-self : goal.invariant_of-self
invariant_of-self c =
    let t = c.self.inside.rows in
    let new : TreeRows = record { roots = t.roots; children = c.push.new.self } in
    joined_kept t new refl (ap (map layer_of) c.in_err-push.ensures.items) (λ j e at. (e, ap (λ xs. slice_get xs j) (sym c.in_err-push.ensures.items) ∙ at, (refl, refl))) c.self.invariant

pub invariant_of-self-2 : goal.invariant_of-self-2
invariant_of-self-2 c =
    let t = c.self.inside.rows in
    let rows = c.add_order.new.self in
    let child : ChildRows = record { table = c.args.table; parent = c.args.parent; foreign = c.args.foreign; rows = rows } in
    let new : TreeRows = record { roots = t.roots; children = c.push.new.self } in
    let long = length-map t.children.items layer_of in
    let before = subst (λ h. c.args.parent ≤ length h.layers) (sym c.self.view_is) c.requires.parent in
    let places : rows.places ≡ c.args.key = ap (λ h. h.places) c.in_ok-add_order.ensures.ok ∙ c.new-rows.ensures.places in
    let orders : rows.orders ≡ (c.args.foreign ++ rows.places) ∷ [] = ap (λ h. h.orders) c.in_ok-add_order.ensures.ok ∙ ap (λ os. os ++ c.in_ok-columns.columns ∷ []) c.new-rows.ensures.orders
    ∙ ap (λ ps. ps ∷ []) (c.in_ok-columns.ensures ∙ ap (λ f. f ++ c.as_slice-2.result.now) c.as_slice.ensures ∙ ap (λ ps. c.args.foreign ++ ps) (c.as_slice-2.ensures ∙ sym places)) in
    let one : IsJoined t (length t.children.items) child = record {
      before = omega (arith, before, long);
      orders = orders;
      some = c.requires.some;
      long = subst (λ h. length c.args.foreign ≡ length (key_at h.key h.layers c.args.parent)) (sym c.self.view_is) c.requires.long;
    } in
    joined_more t new child refl c.in_ok-push.ensures.items one c.self.invariant
