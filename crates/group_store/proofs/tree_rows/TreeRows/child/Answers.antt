use Rattle.std.proofs.Common.{◌<◌, ◌-◌, length, ap, sym, ◌∙◌, arith}
use Rattle.slot_rows.specs.Orders.{place_from}
use Rattle.group_store.specs.Joined.{foreign_there}
use Rattle.group_store.specs.Recent.{orders_for}
use Rattle.group_store.proofs.ChildLaws.{foreign_child, order_is}
use Rattle.group_store.proofs.JoinedLaws.{item_there, table_there}
use Rattle.group_store.proofs.tree_rows.TreeRows.child.Goals as goal

pub place_of_child-requires : goal.place_of_child-requires
place_of_child-requires c =
    let t = c.args.self.now in
    let d = c.index-child.result.now in
    let w : c.args.place - 1 < length t.children.items = omega arith in
    let joined = c.requires.joined (c.args.place - 1) d (item_there t.children.items (c.args.place - 1) d w c.index-child.ensures) in
    joined.orders ∙ sym (order_is d.foreign d.rows.places joined.some) ∙ ap (λ f. orders_for f d.rows.places) (sym c.as_slice.ensures)

pub returns : goal.returns
returns c =
    let t = c.args.self.now in
    let d = c.index-child.result.now in
    let w : c.args.place - 1 < length t.children.items = omega arith in
    let is = item_there t.children.items (c.args.place - 1) d w c.index-child.ensures in
    c.place_of_child.ensures ∙ ap (λ f. place_from d.rows.table f c.args.key.now c.args.from) (c.as_slice.ensures ∙ sym (foreign_child t c.args.place d (omega arith) is))
    ∙ ap (λ m. place_from m (foreign_there t c.args.place) c.args.key.now c.args.from) (sym (table_there t c.args.place d (omega arith) is))
