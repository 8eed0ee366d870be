use Rattle.std.proofs.Common.{◌<◌, ◌-◌, length, ap, sym, subst, ◌∙◌, arith}
use Rattle.std.specs.FinMap as fm
use Rattle.slot_rows.specs.SlotKeys.{IsKeyedBy}
use Rattle.group_store.specs.Joined.{places_at}
use Rattle.group_store.proofs.JoinedLaws.{item_there, places_there, table_there}
use Rattle.group_store.proofs.tree_rows.TreeRows.len.Goals as goal

pub returns-clause-value : goal.returns-clause-value
returns-clause-value c =
    let t = c.args.self.now in
    let w : c.args.place - 1 < length t.children.items = omega arith in
    c.len-2.ensures.value ∙ ap fm.len (sym (table_there t c.args.place c.index.result.now (omega arith) (item_there t.children.items (c.args.place - 1) c.index.result.now w c.index.ensures)))

pub returns-clause-keyed : goal.returns-clause-keyed
returns-clause-keyed c =
    let t = c.args.self.now in
    let d = c.index.result.now in
    let w : c.args.place - 1 < length t.children.items = omega arith in
    let is = item_there t.children.items (c.args.place - 1) d w c.index.ensures in
    subst (λ m. IsKeyedBy (places_at t c.args.place) m) (sym (table_there t c.args.place d (omega arith) is)) (subst (λ ps. IsKeyedBy ps d.rows.table) (sym (places_there t c.args.place d (omega arith) is)) c.len-2.ensures.keyed)
