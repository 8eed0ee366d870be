use Rattle.reply_lines.proofs.OutputLaws.{breaks_flushed, splits_flushed}
use Rattle.session_cli.proofs.answering.write_last_reply.Goals as goal

pub returns-in-Ok-flush-clause-bytes : goal.returns-in-Ok-flush-clause-bytes
returns-in-Ok-flush-clause-bytes g c = splits_flushed _ _ _ c.args.output.now _ _ _ c.in-Ok.ensures.bytes c.in-Ok-flush.ensures.bytes c.in-Ok-flush.ensures.empty

pub returns-in-Err-clause-bytes : goal.returns-in-Err-clause-bytes
returns-in-Err-clause-bytes g c = breaks_flushed _ _ _ c.args.output.now _ _ c.in-Ok.ensures.bytes c.in-Err.ensures.bytes
