use Rattle.std.proofs.Common.{refl}
use Rattle.session_cli.proofs.CheckLaws.{checking_byte}
use Rattle.session_cli.proofs.checker.Checker.take_byte.Goals as goal

pub returns-then-byte-eq10-clause-checks : goal.returns-then-byte-eq10-clause-checks
returns-then-byte-eq10-clause-checks g c = λ start given s. rw c.if-byte-eq10.true (c.end_line.ensures.checks start given s)

pub returns-clause-checks : goal.returns-clause-checks
returns-clause-checks g c = λ start given s. checking_byte start given c.args.byte _ c.args.self.now _ c.if-byte-eq10.false c.push.ensures refl s
