use Rattle.std.proofs.Common.{length, subst}
use Rattle.std.specs.Option.{option_copied}
use Rattle.slot_rows.specs.indexed_rows.specs.Rows.{key_of}
use Rattle.slot_rows.specs.Orders.{IsRowWith}
use Rattle.group_store.proofs.JoinedLaws.{front_is, row_found}
use Rattle.group_store.proofs.tree_rows.row_of.Goals as goal

pub returns-then-child-place : goal.returns-then-child-place
returns-then-child-place c =
    let d = c.args.child.now in
    let n = length c.args.columns.now in
    let key = key_of c.args.columns.now c.args.row.now in
    row_found d c.args.place key (option_copied c.find_for.result) c.if-child-place.true
    (subst (λ columns. IsRowWith d.rows.table d.rows.places columns key (option_copied c.find_for.result)) (front_is d.rows.orders d.foreign d.rows.places n c.requires.orders (c.requires.long c.if-child-place.true)) c.find_for.ensures)
