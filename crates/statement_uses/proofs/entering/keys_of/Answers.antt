use Rattle.std.proofs.Common.{◌+◌, ◌++◌, ap, arith, drop, ◌∙◌}
use Rattle.std.specs.FinMap.{keys}
use Rattle.statement_uses.proofs.SelectedLaws.{keys_end, keys_step}
use Rattle.statement_uses.proofs.entering.keys_of.Goals as goal

pub loop-at-preserved : goal.loop-at-preserved
loop-at-preserved c =
    ap (λ l. l ++ drop (c.loop-at.at + 1) (keys c.args.rows.now)) c.in_ok-push.ensures.items
    ∙ keys_step c.args.rows.now c.loop-at.at c.entry_at.result.now c.loop-at.keys.items c.in_ok-key.key c.entry_at.ensures c.in_ok-key.ensures
    ∙ c.loop-at.invariant

pub returns : goal.returns
returns c =
    c.from_vec.ensures
    ∙ keys_end c.args.rows.now c.loop-at.at c.loop-at.keys.items (omega (arith, c.len-at-end.ensures.value, c.loop-at-test.false)) c.loop-at.invariant
