use Rattle.std.proofs.Common.{refl}
use Rattle.session_cli.proofs.ServingLaws.{serving_byte}
use Rattle.session_cli.proofs.session.Session.take_byte.Goals as goal

pub returns-then-byte-eq10-clause-serves : goal.returns-then-byte-eq10-clause-serves
returns-then-byte-eq10-clause-serves g c = λ o given alone s. rw c.if-byte-eq10.true (c.end_line.ensures.serves o given alone s)

pub returns-clause-serves : goal.returns-clause-serves
returns-clause-serves g c = λ o given alone s. serving_byte o given c.args.byte _ c.args.self.now _ c.if-byte-eq10.false refl c.push.ensures refl s
