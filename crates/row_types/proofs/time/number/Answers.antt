-- One digit more.
use Rattle.std.proofs.Common.{add-one, arith}
use Rattle.std.proofs.Math.Nat.{pow-suc}
use Rattle.std.proofs.lemmas.Int.Digits.{digits_value_more}
use Rattle.std.proofs.lemmas.Str.{digit_value_digit}
use Rattle.std.proofs.lemmas.Str.Parse.{digit_at}
use Rattle.row_types.proofs.Digits.{numerals}
use Rattle.row_types.proofs.time.number.Goals as goal

pub loop-digit-preserved : goal.loop-digit-preserved
loop-digit-preserved c =
    let digits = c.args.digits.now in
    let i = c.loop-digit.digit-index in
    let is = digit_at digits i (numerals.to digits c.requires.digits) c.loop-digit-test.true in
    let digit = digit_value_digit _ is in
    record {
      value = omega (arith, digits_value_more 10 digits i c.loop-digit-test.true, digit, is, c.loop-digit.invariant.value, c.from.ensures);
      bound = rw (add-one, pow-suc) (omega (arith, is, c.loop-digit.invariant.bound, c.from.ensures));
    }
