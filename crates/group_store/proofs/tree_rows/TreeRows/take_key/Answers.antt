use Rattle.std.proofs.Common.{◌<◌, ◌-◌, length, arith}
use Rattle.std.specs.FinMap as fm
use Rattle.group_store.specs.declared.tree_rows.ChildRows.{ChildRows}
use Rattle.group_store.proofs.JoinedLaws.{item_there, keeps_children, keeps_tree, least_root, least_set, tables_changed}
use Rattle.group_store.proofs.tree_rows.TreeRows.take_key.Goals as goal

pub returns-else-place-eq0-clause-tables : goal.returns-else-place-eq0-clause-tables
returns-else-place-eq0-clause-tables c =
    let t = c.args.self.now in
    let d = c.index_mut.result.now in
    let some : 0 < c.args.place = omega arith in
    let w : c.args.place - 1 < length t.children.items = omega arith in
    let is = item_there t.children.items (c.args.place - 1) d w c.index_mut.ensures.value in
    let e : ChildRows = record { table = d.table; parent = d.parent; foreign = d.foreign; rows = c.remove-else-place-eq0.new.self } in
    tables_changed t c.args.place d e (λ m. fm.remove m c.args.key.now) some is c.remove-else-place-eq0.ensures.table

pub returns-then-place-eq0-clause-same : goal.returns-then-place-eq0-clause-same
returns-then-place-eq0-clause-same c = keeps_children c.args.self.now c.remove.new.self c.remove.ensures.places c.remove.ensures.foreign

pub returns-then-place-eq0-clause-spare : goal.returns-then-place-eq0-clause-spare
returns-then-place-eq0-clause-spare c =
    let t = c.args.self.now in
    let more = least_root t.roots.spare c.remove.new.self.spare 0 t.children.items (let s = c.remove.ensures.spare in omega (arith, s)) in omega (arith, more)

pub returns-else-place-eq0-clause-same : goal.returns-else-place-eq0-clause-same
returns-else-place-eq0-clause-same c =
    let t = c.args.self.now in
    let d = c.index_mut.result.now in
    let w : c.args.place - 1 < length t.children.items = omega arith in
    let is = item_there t.children.items (c.args.place - 1) d w c.index_mut.ensures.value in
    keeps_tree t c.args.place d c.remove-else-place-eq0.new.self is c.remove-else-place-eq0.ensures.places c.remove-else-place-eq0.ensures.orders

pub returns-else-place-eq0-clause-spare : goal.returns-else-place-eq0-clause-spare
returns-else-place-eq0-clause-spare c =
    let t = c.args.self.now in
    let d = c.index_mut.result.now in
    let w : c.args.place - 1 < length t.children.items = omega arith in
    let is = item_there t.children.items (c.args.place - 1) d w c.index_mut.ensures.value in
    let e : ChildRows = record { table = d.table; parent = d.parent; foreign = d.foreign; rows = c.remove-else-place-eq0.new.self } in
    let more = least_set t.roots.spare 0 t.children.items (c.args.place - 1) d e is (let s = c.remove-else-place-eq0.ensures.spare in omega (arith, s)) in omega (arith, more)
