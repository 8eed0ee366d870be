use Rattle.std.proofs.Common.{fold, ap, sym, ◌∙◌, arith}
use Rattle.std.specs.FinMap as fm
use Rattle.group_store.specs.Entering.{entered, entered_by, keys_of_rows}
use Rattle.group_store.proofs.CommitLaws.{none_before, none_behind}
use Rattle.group_store.proofs.RootLaws.{no_keys, same_keys}
use Rattle.group_store.proofs.store.Store.entered.Goals as goal

pub loop-op-init : goal.loop-op-init
loop-op-init c =
    let base = c.args.self.now in
    let items = c.as_slice-op-items.result.now in
    ap (λ l. fold (λ roots op. entered_by base op roots) (keys_of_rows c.new-roots.result) l) (none_before items) ∙ ap (λ r. fold (λ roots op. entered_by base op roots) r items) (no_keys c.new-roots.result c.new-roots.ensures)

pub returns : goal.returns
returns c =
    let base = c.args.self.now in
    let items = c.as_slice-op-items.result.now in
    let end = none_behind items c.loop-op.op-index (λ lt. absurd (omega (arith, lt, c.loop-op-test.false, c.loop-op.auto.op-index-end))) in
    same_keys c.loop-op.roots
    ∙ ap fm.keys (sym (ap (λ l. fold (λ roots op. entered_by base op roots) (keys_of_rows c.loop-op.roots) l) end) ∙ c.loop-op.invariant ∙ ap (entered base) c.as_slice-op-items.ensures)
