use Rattle.std.proofs.Common.{◌<◌, ◌-◌, length, ap, sym, ◌∙◌, arith}
use Rattle.slot_rows.specs.indexed_rows.specs.Rows.{key_of, put_in}
use Rattle.cache_store.specs.Operating.{change_at}
use Rattle.group_store.specs.declared.tree_rows.ChildRows.{ChildRows}
use Rattle.group_store.specs.Joined.{tables_of}
use Rattle.group_store.proofs.JoinedLaws.{child_room, item_there, keeps_children, keeps_tree, least_root, least_set, places_there, root_room, tables_changed}
use Rattle.group_store.proofs.tree_rows.TreeRows.put.Goals as goal

pub insert_reserved-requires : goal.insert_reserved-requires
insert_reserved-requires c = let room = root_room c.args.self.now in omega (arith, room, c.requires.room)

pub insert_reserved-requires-else-place-eq0 : goal.insert_reserved-requires-else-place-eq0
insert_reserved-requires-else-place-eq0 c =
    let t = c.args.self.now in
    let d = c.index_mut.result.now in
    let w : c.args.place - 1 < length t.children.items = omega arith in
    let room = child_room t (c.args.place - 1) d (item_there t.children.items (c.args.place - 1) d w c.index_mut.ensures.value) in
    omega (arith, room, c.requires.room)

pub returns-then-place-eq0-clause-same : goal.returns-then-place-eq0-clause-same
returns-then-place-eq0-clause-same c = keeps_children c.args.self.now c.insert_reserved.new.self c.insert_reserved.ensures.places c.insert_reserved.ensures.foreign

pub returns-then-place-eq0-clause-spare : goal.returns-then-place-eq0-clause-spare
returns-then-place-eq0-clause-spare c =
    let t = c.args.self.now in
    let more = least_root t.roots.spare c.insert_reserved.new.self.spare 1 t.children.items (let s = c.insert_reserved.ensures.spare in omega (arith, s)) in omega (arith, more)

pub returns-else-place-eq0-clause-same : goal.returns-else-place-eq0-clause-same
returns-else-place-eq0-clause-same c =
    let t = c.args.self.now in
    let d = c.index_mut.result.now in
    let w : c.args.place - 1 < length t.children.items = omega arith in
    let is = item_there t.children.items (c.args.place - 1) d w c.index_mut.ensures.value in
    keeps_tree t c.args.place d c.insert_reserved-else-place-eq0.new.self is c.insert_reserved-else-place-eq0.ensures.places c.insert_reserved-else-place-eq0.ensures.orders

pub returns-else-place-eq0-clause-spare : goal.returns-else-place-eq0-clause-spare
returns-else-place-eq0-clause-spare c =
    let t = c.args.self.now in
    let d = c.index_mut.result.now in
    let w : c.args.place - 1 < length t.children.items = omega arith in
    let is = item_there t.children.items (c.args.place - 1) d w c.index_mut.ensures.value in
    let e : ChildRows = record { table = d.table; parent = d.parent; foreign = d.foreign; rows = c.insert_reserved-else-place-eq0.new.self } in
    let more = least_set t.roots.spare 1 t.children.items (c.args.place - 1) d e is (let s = c.insert_reserved-else-place-eq0.ensures.spare in omega (arith, s)) in omega (arith, more)

pub returns-else-place-eq0-clause-tables : goal.returns-else-place-eq0-clause-tables
returns-else-place-eq0-clause-tables c =
    let t = c.args.self.now in
    let d = c.index_mut.result.now in
    let w : c.args.place - 1 < length t.children.items = omega arith in
    let is = item_there t.children.items (c.args.place - 1) d w c.index_mut.ensures.value in
    let e : ChildRows = record { table = d.table; parent = d.parent; foreign = d.foreign; rows = c.insert_reserved-else-place-eq0.new.self } in
    tables_changed t c.args.place d e (λ m. put_in m (key_of d.rows.places c.args.row) c.args.row) (omega arith) is c.insert_reserved-else-place-eq0.ensures.table
    ∙ ap (λ ps. change_at c.args.place (λ m. put_in m (key_of ps c.args.row) c.args.row) (tables_of t)) (sym (places_there t c.args.place d (omega arith) is))
