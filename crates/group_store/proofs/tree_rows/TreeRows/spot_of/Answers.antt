use Rattle.std.proofs.Common.{◌<◌, ◌-◌, length, sym, subst, arith}
use Rattle.slot_rows.specs.indexed_rows.specs.Rows.{key_of}
use Rattle.group_store.specs.Recent.{IsRowPlace}
use Rattle.group_store.specs.Joined.{places_at}
use Rattle.group_store.proofs.JoinedLaws.{item_there, places_there, table_there}
use Rattle.group_store.proofs.RecentLaws.{place_is}
use Rattle.group_store.proofs.tree_rows.TreeRows.spot_of.Goals as goal

pub returns : goal.returns
returns c =
    let t = c.args.self.now in
    let d = c.index.result.now in
    let w : c.args.place - 1 < length t.children.items = omega arith in
    let is = item_there t.children.items (c.args.place - 1) d w c.index.ensures in
    subst (λ m. IsRowPlace m (key_of (places_at t c.args.place) c.args.row.now) c.place_of-2.result) (sym (table_there t c.args.place d (omega arith) is))
    (subst (λ ps. IsRowPlace d.rows.table (key_of ps c.args.row.now) c.place_of-2.result) (sym (places_there t c.args.place d (omega arith) is)) (place_is d.rows (key_of d.rows.places c.args.row.now) c.place_of-2.result c.place_of-2.ensures))
