use Rattle.std.proofs.Common.{◌<◌, ◌-◌, length, sym, ◌∙◌, arith}
use Rattle.group_store.proofs.JoinedLaws.{item_there, places_there}
use Rattle.group_store.proofs.tree_rows.TreeRows.places.Goals as goal

pub returns : goal.returns
returns c =
    let t = c.args.self.now in
    let w : c.args.place - 1 < length t.children.items = omega arith in
    c.places-2.ensures ∙ sym (places_there t c.args.place c.index.result.now (omega arith) (item_there t.children.items (c.args.place - 1) c.index.result.now w c.index.ensures))
