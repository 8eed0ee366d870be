use Rattle.std.proofs.Common.{◌≡◌, ◌<◌, length, inl, inr, subst, arith}
use Rattle.std.specs.FinMap.{empty}
use Rattle.std.specs.Vec.{with_item}
use Rattle.group_store.specs.declared.tree_rows.ChildRows.{ChildRows}
use Rattle.group_store.specs.declared.tree_rows.TreeRows.{TreeRows}
use Rattle.group_store.proofs.ClearLaws.{none_left}
use Rattle.group_store.proofs.JoinedLaws.{children_stay, item_there, keeps_at, keeps_both, keeps_children, set_got}
use Rattle.group_store.proofs.tree_rows.TreeRows.clear.Goals as goal

pub loop-place-init : goal.loop-place-init
loop-place-init c = record {
  same = keeps_children c.args.self.now c.clear.new.self c.clear.ensures.places c.clear.ensures.foreign;
  keys = c.clear.ensures.keys;
  root = c.clear.ensures.table;
  rows = λ i d lt is. absurd (omega (arith, lt));
}

pub loop-place-preserved : goal.loop-place-preserved
loop-place-preserved c =
    let t = c.loop-place.self in
    let place = c.loop-place.place in
    let d = c.index_mut.result.now in
    let w : place < length t.children.items = (let long = children_stay c.args.self.now c.loop-place.self c.loop-place.invariant.same in omega (arith, long, c.loop-place-test.true, c.len-place-end.ensures)) in
    let is = item_there t.children.items place d w c.index_mut.ensures.value in
    let rows = c.clear-in-loop-place.new.self in
    let e : ChildRows = record { table = d.table; parent = d.parent; foreign = d.foreign; rows = rows } in
    let new : TreeRows = record { roots = t.roots; children = with_item t.children place e } in
    record {
      same = keeps_both c.args.self.now t new c.loop-place.invariant.same (keeps_at t place d rows is c.clear-in-loop-place.ensures.places c.clear-in-loop-place.ensures.orders);
      keys = c.loop-place.invariant.keys;
      root = c.loop-place.invariant.root;
      rows = λ j x lt there. elim (set_got t.children.items place e j x there) [
        | inl one ↦ subst (λ y. y.rows.table ≡ empty) one.1 c.clear-in-loop-place.ensures.table
        | inr other ↦ c.loop-place.invariant.rows j x (let n : j ≡ place → ⊥ = other.0 in omega (arith, lt, n)) other.1
      ];
    }

pub returns-clause-tables : goal.returns-clause-tables
returns-clause-tables c =
    let t = c.loop-place.self in
    let long = children_stay c.args.self.now c.loop-place.self c.loop-place.invariant.same in
    none_left c.args.self.now t long c.loop-place.invariant.root (λ i d lt is. c.loop-place.invariant.rows i d (omega (arith, long, lt, c.loop-place-test.false, c.len-place-end.ensures, c.loop-place.auto.place-end)) is)
