use Rattle.session_cli.proofs.CuttingLaws.{empty_when, some_when}
use Rattle.session_cli.proofs.CheckLaws.{check_closes_ended, check_closes_line}
use Rattle.session_cli.proofs.checker.Checker.end_input.Goals as goal

pub returns-then-is_empty-clause-checks : goal.returns-then-is_empty-clause-checks
returns-then-is_empty-clause-checks g c = λ start given s. check_closes_ended start given _ c.args.self.now (empty_when c.is_empty.result c.args.self.now.line c.is_empty.ensures c.if-is_empty.true) s

pub returns-clause-checks : goal.returns-clause-checks
returns-clause-checks g c = λ start given s.
    check_closes_line _ start given _ _ c.args.self.now _ c.as_bytes.result.now c.as_bytes.ensures (some_when c.is_empty.result c.args.self.now.line c.is_empty.ensures c.if-is_empty.false) s c.tell.ensures.tells
