use Rattle.std.proofs.Common.{◌≤◌, length, ap, ◌∙◌, arith}
use Rattle.std.specs.FinMap.{entries, get, get-empty, len-entries}
use Rattle.row_types.specs.Order.{key_order}
use Rattle.indexed_rows.proofs.CopyLaws.{copied_more, copied_all}
use Rattle.indexed_rows.proofs.copy.copied_rows.Goals as goal

pub loop-place-init : goal.loop-place-init
loop-place-init c = λ key. ap (λ m. get m key) c.new-copies.ensures ∙ get-empty key_order key

pub loop-place-preserved : goal.loop-place-preserved
loop-place-preserved c =
    copied_more c.args.rows.now c.loop-place.copies c.insert.new.self c.loop-place.place c.entry_at.result.now c.in_ok-key.key c.in_ok-row.row c.loop-place.invariant c.entry_at.ensures c.in_ok-key.ensures c.in_ok-row.ensures c.in_ok-insert.ensures.ok

pub returns : goal.returns
returns c =
    let ended : length (entries c.args.rows.now) ≤ c.loop-place.place = omega (arith, len-entries c.args.rows.now) in
    copied_all c.args.rows.now c.loop-place.copies c.loop-place.place ended c.loop-place.invariant
