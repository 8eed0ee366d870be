use Rattle.reply_lines.proofs.OutputLaws.{passes_failed, passes_then}
use Rattle.reply_lines.proofs.replies.write_numbered.Goals as goal

pub returns-in_err-put-clause-bytes : goal.returns-in_err-put-clause-bytes
returns-in_err-put-clause-bytes g c = passes_failed _ _ _ _ _ _ _ c.from_residual.ensures.0 c.in_err-put.ensures.bytes

pub returns-clause-bytes : goal.returns-clause-bytes
returns-clause-bytes g c = passes_then _ _ _ _ _ _ _ _ _ c.in_ok-put.ensures.bytes c.write_number_line.ensures.bytes
