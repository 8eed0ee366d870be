use Rattle.session_cli.proofs.ServingLaws.{feeds_stopped, serving_line, unshared_now}
use Rattle.session_cli.proofs.session.Session.end_line.Goals as goal

pub returns-in-Err-clause-serves : goal.returns-in-Err-clause-serves
returns-in-Err-clause-serves g c = λ o given alone s.
    feeds_stopped c.in-Err.stop o given _ _ c.args.self.now c.args.self.now _ _ c.text-line.result.now c.text-line.ensures s
    c.in-Err.ensures.serves (unshared_now o given _ c.args.self.now s alone)

pub returns-in-Ok-clause-serves : goal.returns-in-Ok-clause-serves
returns-in-Ok-clause-serves g c = λ o given alone s.
    serving_line o given _ _ c.args.self.now _ c.text-line.result.now c.text-line.ensures c.clear.ensures s
    c.in-Ok.ensures.serves (unshared_now o given _ c.args.self.now s alone)
