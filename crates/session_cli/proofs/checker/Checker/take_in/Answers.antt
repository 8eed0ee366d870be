use Rattle.std.proofs.Common.{◌++◌, take, rules}
use Rattle.session_cli.proofs.CheckLaws.{check_byte_failed, checking_more}
use Rattle.session_cli.proofs.checker.Checker.take_in.Goals as goal

pub returns-in_err-take_byte-clause-checks : goal.returns-in_err-take_byte-clause-checks
returns-in_err-take_byte-clause-checks g c = λ start given s.
    let i = c.loop-byte.byte-index in
    check_byte_failed c.in_err-take_byte.field-0.0 _ start given c.args.bytes.now i _ c.take_byte.new.self _ c.from_residual.ensures.0 c.loop-byte-test.true
    (c.in_err-take_byte.ensures.checks start (given ++ take i c.args.bytes.now) (c.loop-byte.invariant.checks start given s))

pub loop-byte-preserved : goal.loop-byte-preserved
loop-byte-preserved g c = record {
  checks = λ start given s.
      let i = c.loop-byte.byte-index in
      checking_more start given c.args.bytes.now i _ _ c.loop-byte-test.true (c.in_ok-take_byte.ensures.checks start (given ++ take i c.args.bytes.now) (c.loop-byte.invariant.checks start given s));
  later = search rules;
}
