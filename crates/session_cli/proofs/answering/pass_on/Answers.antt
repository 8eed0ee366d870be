use Rattle.std.proofs.Common.{Some, ◌∙◌, sym}
use Rattle.session_cli.proofs.StopLaws.{tells_last}
use Rattle.session_cli.proofs.answering.pass_on.Goals as goal

pub returns-then-is_disk_fault-clause-tells : goal.returns-then-is_disk_fault-clause-tells
returns-then-is_disk_fault-clause-tells g c = tells_last c.write_last_reply.result (Some c.args.reply.now) (sym c.is_disk_fault.ensures ∙ c.if-is_disk_fault.true)
