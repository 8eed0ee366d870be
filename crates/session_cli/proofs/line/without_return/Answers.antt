use Rattle.std.proofs.Common.{sym}
use Rattle.session_cli.proofs.CuttingLaws.{return_at_end, other_at_end}
use Rattle.session_cli.proofs.line.without_return.Goals as goal

pub returns-then-last-eq13 : goal.returns-then-last-eq13
returns-then-last-eq13 c = sym (return_at_end c.args.bytes.now c.in-Some.front.now c.in-Some.last.now c.in-Some.ensures.cases.0 c.if-last-eq13.true)

pub returns-else-last-eq13 : goal.returns-else-last-eq13
returns-else-last-eq13 c = sym (other_at_end c.args.bytes.now c.in-Some.front.now c.in-Some.last.now c.in-Some.ensures.cases.0 c.if-last-eq13.false)
