use Rattle.std.proofs.Common.{◌≡◌, ◌<◌, ◌≤◌, ◌∷◌, length, map, inl, inr, ap, subst, ◌∙◌, arith}
use Rattle.std.specs.Vec.{with_item}
use Rattle.group_store.specs.declared.tree_rows.ChildRows.{ChildRows}
use Rattle.group_store.specs.declared.tree_rows.TreeRows.{TreeRows}
use Rattle.group_store.proofs.JoinedLaws.{children_stay, item_there, keeps_at, keeps_both, keeps_children, least_all, least_root, least_set, set_got, tables_kept}
use Rattle.group_store.proofs.tree_rows.TreeRows.reserve.Goals as goal

pub returns-in_err-reserve-clause-same : goal.returns-in_err-reserve-clause-same
returns-in_err-reserve-clause-same c = keeps_children c.args.self.now c.reserve.new.self c.reserve.ensures.places c.reserve.ensures.foreign

pub returns-in_err-reserve-clause-spare : goal.returns-in_err-reserve-clause-spare
returns-in_err-reserve-clause-spare c =
    let t = c.args.self.now in
    let more = least_root t.roots.spare c.reserve.new.self.spare 0 t.children.items (let s = c.reserve.ensures.spare in omega (arith, s)) in omega (arith, more)

pub loop-place-init : goal.loop-place-init
loop-place-init c =
    let t = c.args.self.now in
    let more = least_root t.roots.spare c.reserve.new.self.spare 0 t.children.items (let s = c.reserve.ensures.spare in omega (arith, s)) in
    record {
      tables = ap (λ x. x ∷ map (λ d. d.rows.table) t.children.items) c.reserve.ensures.table;
      same = keeps_children t c.reserve.new.self c.reserve.ensures.places c.reserve.ensures.foreign;
      keys = c.reserve.ensures.keys;
      spare = omega (arith, more);
      root = c.in_ok-reserve.ensures.ok;
      room = λ i d lt is. absurd (omega (arith, lt));
    }

pub returns-in_err-reserve-2-clause-tables : goal.returns-in_err-reserve-2-clause-tables
returns-in_err-reserve-2-clause-tables c =
    let t = c.loop-place.self in
    let d = c.index_mut.result.now in
    let w : c.loop-place.place < length t.children.items = (let long = children_stay c.args.self.now c.loop-place.self c.loop-place.invariant.same in omega (arith, long, c.loop-place-test.true, c.len-place-end.ensures)) in
    let is = item_there t.children.items c.loop-place.place d w c.index_mut.ensures.value in
    let e : ChildRows = record { table = d.table; parent = d.parent; foreign = d.foreign; rows = c.reserve-in-loop-place.new.self } in
    ap (λ l. t.roots.table ∷ l) (tables_kept t.children.items c.loop-place.place d e is c.reserve-in-loop-place.ensures.table) ∙ c.loop-place.invariant.tables

pub returns-in_err-reserve-2-clause-same : goal.returns-in_err-reserve-2-clause-same
returns-in_err-reserve-2-clause-same c =
    let t = c.loop-place.self in
    let d = c.index_mut.result.now in
    let w : c.loop-place.place < length t.children.items = (let long = children_stay c.args.self.now c.loop-place.self c.loop-place.invariant.same in omega (arith, long, c.loop-place-test.true, c.len-place-end.ensures)) in
    let is = item_there t.children.items c.loop-place.place d w c.index_mut.ensures.value in
    let e : ChildRows = record { table = d.table; parent = d.parent; foreign = d.foreign; rows = c.reserve-in-loop-place.new.self } in
    let new : TreeRows = record { roots = t.roots; children = with_item t.children c.loop-place.place e } in
    keeps_both c.args.self.now t new c.loop-place.invariant.same (keeps_at t c.loop-place.place d c.reserve-in-loop-place.new.self is c.reserve-in-loop-place.ensures.places c.reserve-in-loop-place.ensures.orders)

pub returns-in_err-reserve-2-clause-spare : goal.returns-in_err-reserve-2-clause-spare
returns-in_err-reserve-2-clause-spare c =
    let t = c.loop-place.self in
    let d = c.index_mut.result.now in
    let w : c.loop-place.place < length t.children.items = (let long = children_stay c.args.self.now c.loop-place.self c.loop-place.invariant.same in omega (arith, long, c.loop-place-test.true, c.len-place-end.ensures)) in
    let is = item_there t.children.items c.loop-place.place d w c.index_mut.ensures.value in
    let e : ChildRows = record { table = d.table; parent = d.parent; foreign = d.foreign; rows = c.reserve-in-loop-place.new.self } in
    let more = least_set t.roots.spare 0 t.children.items c.loop-place.place d e is (let s = c.reserve-in-loop-place.ensures.spare in omega (arith, s)) in
    let before = c.loop-place.invariant.spare in omega (arith, more, before)

pub loop-place-preserved : goal.loop-place-preserved
loop-place-preserved c =
    let t = c.loop-place.self in
    let place = c.loop-place.place in
    let d = c.index_mut.result.now in
    let w : place < length t.children.items = (let long = children_stay c.args.self.now c.loop-place.self c.loop-place.invariant.same in omega (arith, long, c.loop-place-test.true, c.len-place-end.ensures)) in
    let is = item_there t.children.items place d w c.index_mut.ensures.value in
    let e : ChildRows = record { table = d.table; parent = d.parent; foreign = d.foreign; rows = c.reserve-in-loop-place.new.self } in
    let new : TreeRows = record { roots = t.roots; children = with_item t.children place e } in
    let more = least_set t.roots.spare 0 t.children.items place d e is (let s = c.reserve-in-loop-place.ensures.spare in omega (arith, s)) in
    let before = c.loop-place.invariant.spare in
    record {
      tables = ap (λ l. t.roots.table ∷ l) (tables_kept t.children.items place d e is c.reserve-in-loop-place.ensures.table) ∙ c.loop-place.invariant.tables;
      same = keeps_both c.args.self.now t new c.loop-place.invariant.same (keeps_at t place d c.reserve-in-loop-place.new.self is c.reserve-in-loop-place.ensures.places c.reserve-in-loop-place.ensures.orders);
      keys = c.loop-place.invariant.keys;
      spare = omega (arith, more, before);
      root = c.loop-place.invariant.root;
      room = λ j x lt there. elim (set_got t.children.items place e j x there) [
        | inl one ↦ subst (λ y. c.args.more ≤ y.rows.spare) one.1 c.in_ok-reserve-2.ensures.ok
        | inr other ↦ c.loop-place.invariant.room j x (let n : j ≡ place → ⊥ = other.0 in omega (arith, lt, n)) other.1
      ];
    }

pub returns-clause-ok : goal.returns-clause-ok
returns-clause-ok c =
    let t = c.loop-place.self in
    least_all t.roots.spare c.args.more t.children.items c.loop-place.invariant.root (λ i d lt is. c.loop-place.invariant.room i d (let long = children_stay c.args.self.now c.loop-place.self c.loop-place.invariant.same in omega (arith, long, lt, c.loop-place-test.false, c.len-place-end.ensures, c.loop-place.auto.place-end)) is)
