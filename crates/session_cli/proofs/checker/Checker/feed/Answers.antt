use Rattle.std.proofs.Common.{refl}
use Rattle.session_cli.proofs.CheckLaws.{check_again, checking_flushed, flush_failed}
use Rattle.outside.specs.declared.fault.Failed.{Failed}
use Rattle.session_cli.proofs.checker.Checker.feed.Goals as goal

pub returns-in_err-take_in-clause-checks : goal.returns-in_err-take_in-clause-checks
returns-in_err-take_in-clause-checks g c = λ start given s. check_again c.in_err-take_in.field-0.0 _ start given c.args.bytes.now _ c.take_in.new.self _ c.from_residual.ensures.0 (c.in_err-take_in.ensures.checks start given s)

pub returns-in-Ok-clause-checks : goal.returns-in-Ok-clause-checks
returns-in-Ok-clause-checks g c = λ start given s.
    checking_flushed Failed start _ _ _ c.take_in.new.self _ refl (c.in_ok-take_in.ensures.checks start given s) c.in-Ok.ensures.bytes

pub returns-in-Err-clause-checks : goal.returns-in-Err-clause-checks
returns-in-Err-clause-checks g c = λ start given s.
    flush_failed Failed c.in-Err.field-0 start given c.args.bytes.now _ _ c.take_in.new.self c.flush.new.self (c.in_ok-take_in.ensures.checks start given s) c.in-Err.ensures.bytes
