use Rattle.std.proofs.Common.{[], ◌∙◌}
use Rattle.reply_lines.proofs.OutputLaws.{passes_failed, passes_then, passes_written, splits_both, splits_waits}
use Rattle.reply_lines.proofs.output.Output.put.Goals as goal

pub returns-in_err-flush-clause-bytes : goal.returns-in_err-flush-clause-bytes
returns-in_err-flush-clause-bytes g c = rw (← c.if-keeps.ensures) (passes_failed _ _ _ _ _ [] c.args.bytes.now c.from_residual.ensures.0 c.in_err-flush.ensures.bytes)

pub returns-then-keeps-2-clause-bytes : goal.returns-then-keeps-2-clause-bytes
returns-then-keeps-2-clause-bytes g c =
    rw (← c.if-keeps.ensures) (splits_both _ _ _ _ _ _ [] c.args.bytes.now c.in_ok-flush.ensures.bytes (splits_waits _ _ _ c.args.bytes.now c.if-keeps-2.ensures))

pub returns-clause-bytes : goal.returns-clause-bytes
returns-clause-bytes g c =
    rw (← c.if-keeps.ensures) (passes_then _ _ _ _ _ _ _ [] c.args.bytes.now c.in_ok-flush.ensures.bytes (passes_written _ _ _ _ _ c.args.bytes.now c.in_ok-flush.ensures.empty (c.if-keeps-2.ensures ∙ c.in_ok-flush.ensures.empty) c.put_all.ensures.bytes))
