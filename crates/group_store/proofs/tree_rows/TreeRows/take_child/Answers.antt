use Rattle.std.proofs.Common.{◌≡◌, ◌<◌, ◌-◌, length, refl, subst, ap, arith}
use Rattle.std.specs.FinMap as fm
use Rattle.slot_rows.specs.indexed_rows.specs.Places.{IsKeyAt}
use Rattle.group_store.specs.declared.tree_rows.ChildRows.{ChildRows}
use Rattle.group_store.specs.declared.tree_rows.TreeRows.{TreeRows}
use Rattle.group_store.specs.Joined.{layer_of}
use Rattle.group_store.proofs.JoinedLaws.{item_there, joined_kept, kinds_set, layers_set, least_set, table_there, tables_changed}
use Rattle.std.specs.Vec.{with_item}
use Rattle.group_store.proofs.tree_rows.TreeRows.take_child.Goals as goal

pub remove_at-requires : goal.remove_at-requires
remove_at-requires c =
    let t = c.args.self.now in
    let d = c.index_mut.result.now in
    let some : 0 < c.args.place = c.requires.child in
    let w : c.args.place - 1 < length t.children.items = omega arith in
    let is = item_there t.children.items (c.args.place - 1) d w c.index_mut.ensures.value in
    subst (λ m. c.args.spot < fm.len m) (table_there t c.args.place d some is) c.requires.there

pub returns : goal.returns
returns c =
    let t = c.args.self.now in
    let d = c.index_mut.result.now in
    let some : 0 < c.args.place = c.requires.child in
    let w : c.args.place - 1 < length t.children.items = omega arith in
    let is = item_there t.children.items (c.args.place - 1) d w c.index_mut.ensures.value in
    let e : ChildRows = record { table = d.table; parent = d.parent; foreign = d.foreign; rows = c.remove_at.new.self } in
    let new : TreeRows = record { roots = t.roots; children = with_item t.children (c.args.place - 1) e } in
    let layer : layer_of e ≡ layer_of d = ap (λ ps. record { table = d.table; key = ps; foreign = d.foreign; parent = d.parent }) c.remove_at.ensures.places in
    let layers = layers_set t.children.items (c.args.place - 1) d e is layer in
    record {
      roots = refl;
      layers = layers;
      joined = joined_kept t new refl layers (kinds_set t.children.items (c.args.place - 1) d e is (layer, c.remove_at.ensures.orders));
      spare = (let more = least_set t.roots.spare 0 t.children.items (c.args.place - 1) d e is (let s = c.remove_at.ensures.spare in omega (arith, s)) in omega (arith, more));
      leaves = λ key here. tables_changed t c.args.place d e (λ m. fm.remove m key) some is (c.remove_at.ensures.taken key (subst (λ m. IsKeyAt (fm.entries m) key c.args.spot) (table_there t c.args.place d some is) here)).now;
    }
