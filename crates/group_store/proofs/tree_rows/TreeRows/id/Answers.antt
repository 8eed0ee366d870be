use Rattle.std.proofs.Common.{◌<◌, ◌-◌, length, unwrap_or, ap, sym, ◌∙◌, arith}
use Rattle.std.specs.Option.{option_map}
use Rattle.slot_rows.specs.indexed_rows.proofs.MapLaws.{slice_get_map}
use Rattle.group_store.specs.Trees.{Layer}
use Rattle.group_store.specs.Held.{id_at}
use Rattle.group_store.specs.Joined.{layer_of, layers_of}
use Rattle.group_store.proofs.JoinedLaws.{item_there, next_place}
use Rattle.group_store.proofs.tree_rows.TreeRows.id.Goals as goal

pub returns : goal.returns
returns c =
    let t = c.args.self.now in
    let d = c.index.result.now in
    let some : 0 < c.args.place = omega arith in
    let w : c.args.place - 1 < length t.children.items = omega arith in
    let is = item_there t.children.items (c.args.place - 1) d w c.index.ensures in
    sym (ap (id_at c.args.root (layers_of t)) (next_place c.args.place some) ∙ ap (λ o. unwrap_or (option_map (λ (l : Layer). l.table) o) c.args.root) (slice_get_map layer_of t.children.items (c.args.place - 1) d is))
