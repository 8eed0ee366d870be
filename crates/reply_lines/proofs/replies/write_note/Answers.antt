use Rattle.reply_lines.proofs.replies.write_note.Goals as goal

pub returns-in-Propagate-clause-bytes : goal.returns-in-Propagate-clause-bytes
returns-in-Propagate-clause-bytes g c = rw c.in-Propagate.is c.write_coded.ensures.bytes
