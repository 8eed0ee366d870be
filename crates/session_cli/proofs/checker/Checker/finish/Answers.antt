use Rattle.session_cli.proofs.CheckLaws.{check_closes_failed, check_finishes, check_unfinished}
use Rattle.outside.specs.declared.fault.Failed.{Failed}
use Rattle.session_cli.proofs.checker.Checker.finish.Goals as goal

pub returns-in_err-end_input-clause-checks : goal.returns-in_err-end_input-clause-checks
returns-in_err-end_input-clause-checks g c = λ start given s. check_closes_failed c.in_err-end_input.field-0.0 _ start given _ c.end_input.new.self.output c.from_residual.ensures.0 (c.in_err-end_input.ensures.checks start given s)

pub returns-in-Ok-clause-checks : goal.returns-in-Ok-clause-checks
returns-in-Ok-clause-checks g c = λ start given s. check_finishes Failed start given _ _ c.end_input.new.self.output _ (c.in_ok-end_input.ensures.checks start given s) c.in-Ok.ensures.bytes c.in-Ok.ensures.empty

pub returns-in-Err-clause-checks : goal.returns-in-Err-clause-checks
returns-in-Err-clause-checks g c = λ start given s. check_unfinished Failed c.in-Err.field-0 start given _ _ c.end_input.new.self.output c.flush.new.self (c.in_ok-end_input.ensures.checks start given s) c.in-Err.ensures.bytes
