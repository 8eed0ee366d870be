use Rattle.std.proofs.Common.{◌<◌, ◌-◌, length, slice_get, ap, sym, ◌∙◌, arith}
use Rattle.std.specs.FinMap as fm
use Rattle.cache_store.specs.instances.specs.Views.{kept_at}
use Rattle.group_store.specs.Joined.{tables_of}
use Rattle.group_store.proofs.ChildLaws.{past_rows}
use Rattle.group_store.proofs.JoinedLaws.{item_there, table_there}
use Rattle.group_store.proofs.tree_rows.TreeRows.row.Goals as goal

pub returns-then-at-len : goal.returns-then-at-len
returns-then-at-len c = past_rows (kept_at (tables_of c.args.self.now) c.args.place) c.args.at (omega (arith, c.len.ensures.value, c.if-at-len.true))

pub row_at-requires-2 : goal.row_at-requires-2
row_at-requires-2 c =
    let t = c.args.self.now in
    let w : c.args.place - 1 < length t.children.items = omega arith in
    let is = ap fm.len (table_there t c.args.place c.index.result.now (omega arith) (item_there t.children.items (c.args.place - 1) c.index.result.now w c.index.ensures)) in
    omega (arith, is, c.len.ensures.value, c.if-at-len.false)

pub returns : goal.returns
returns c =
    let t = c.args.self.now in
    let w : c.args.place - 1 < length t.children.items = omega arith in
    c.row_at-2.ensures ∙ ap (λ m. slice_get (fm.values m) c.args.at) (sym (table_there t c.args.place c.index.result.now (omega arith) (item_there t.children.items (c.args.place - 1) c.index.result.now w c.index.ensures)))
