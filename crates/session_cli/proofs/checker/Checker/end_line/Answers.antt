use Rattle.std.proofs.Common.{[], ◌∷◌}
use Rattle.session_cli.proofs.CheckLaws.{checking_line, line_failed, check_again}
use Rattle.session_cli.proofs.checker.Checker.end_line.Goals as goal

pub returns-in_err-tell-clause-checks : goal.returns-in_err-tell-clause-checks
returns-in_err-tell-clause-checks g c = λ start given s.
    check_again c.in_err-tell.field-0.0 _ start given (10 ∷ []) _ c.args.self.now _ c.from_residual.ensures.0
    (line_failed c.in_err-tell.field-0.0 start given _ _ c.args.self.now _ c.text.result.now c.text.ensures s c.in_err-tell.ensures.tells)

pub returns-clause-checks : goal.returns-clause-checks
returns-clause-checks g c = λ start given s.
    checking_line start given _ _ c.args.self.now _ c.text.result.now c.text.ensures c.clear.ensures s c.in_ok-tell.ensures.tells
