use Rattle.session_cli.proofs.CuttingLaws.{empty_when, some_when}
use Rattle.session_cli.proofs.ServingLaws.{closes_ended, closes_line, unshared_now}
use Rattle.session_cli.proofs.session.Session.end_input.Goals as goal

pub returns-then-is_empty-clause-serves : goal.returns-then-is_empty-clause-serves
returns-then-is_empty-clause-serves g c = λ o given alone s. closes_ended o given _ c.args.self.now (empty_when c.is_empty.result c.args.self.now.line c.is_empty.ensures c.if-is_empty.true) s

pub returns-clause-serves : goal.returns-clause-serves
returns-clause-serves g c = λ o given alone s.
    closes_line _ o given _ _ c.args.self.now _ _ c.as_bytes.result.now c.as_bytes.ensures (some_when c.is_empty.result c.args.self.now.line c.is_empty.ensures c.if-is_empty.false) s
    c.respond.ensures.serves (unshared_now o given _ c.args.self.now s alone)
