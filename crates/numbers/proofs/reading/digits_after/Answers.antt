-- One digit more.
use Rattle.std.proofs.Common.{◌≡◌, ◌+◌, ◌*◌, ◌^◌, arith, get_or, drop, min, ap, sym, ◌∙◌}
use Rattle.std.specs.Char.{digit_value}
use Rattle.std.specs.Str.Parse.{digits_value_after}
use Rattle.std.proofs.lemmas.Str.{digit_value_digit}
use Rattle.std.proofs.lemmas.Str.Parse.{digit_at}
use Rattle.numbers.proofs.Digits.{after_capped, after_first, numerals}
use Rattle.numbers.proofs.reading.digits_after.Goals as goal

pub loop-digit-preserved : goal.loop-digit-preserved
loop-digit-preserved c =
    let digits = c.args.digits.now in
    let i = c.loop-digit.digit-index in
    let n = c.loop-digit.number in
    let is = digit_at digits i (numerals.to digits c.requires.digits) c.loop-digit-test.true in
    let digit : c.from.result ≡ digit_value (get_or digits i 0) = omega (arith, digit_value_digit (get_or digits i 0) is, is.0, c.from.ensures) in
    let next : c.min-number.result ≡ min (n * 10 + digit_value (get_or digits i 0)) (2 ^ 64) = c.min-number.ensures ∙ ap (λ d. min (n * 10 + d) (2 ^ 64)) digit in
    let first = after_first n i digits c.loop-digit-test.true in
    let capped = after_capped (n * 10 + digit_value (get_or digits i 0)) (2 ^ 64) (drop (i + 1) digits) in
    record {
      rest = c.loop-digit.invariant.rest ∙ ap (λ v. min v (2 ^ 64)) first ∙ capped ∙ ap (λ v. min (digits_value_after 10 v (drop (i + 1) digits)) (2 ^ 64)) (sym next);
      limit = omega (arith, next);
    }
