use Rattle.std.proofs.Common.{◌≡◌, ◌^◌, min, ap, sym, ◌∙◌}
use Rattle.std.specs.Str.Parse.{digits_value_after}
use Rattle.numbers.specs.NumberTexts.{fraction_digits, whole_digits}
use Rattle.numbers.proofs.Digits.{after_append, after_capped}
use Rattle.numbers.proofs.reading.units_in.Goals as goal

pub returns : goal.returns
returns c =
    let whole = whole_digits c.args.digits.now in
    let fraction = fraction_digits c.args.digits.now in
    let first : c.digits_after.result ≡ min (digits_value_after 10 0 whole) (2 ^ 64) =
    c.digits_after.ensures ∙ ap (λ ds. min (digits_value_after 10 0 ds) (2 ^ 64)) c.whole_digits.ensures in
    let then : c.digits_after-2.result ≡ min (digits_value_after 10 (min (digits_value_after 10 0 whole) (2 ^ 64)) fraction) (2 ^ 64) =
    c.digits_after-2.ensures ∙ ap (λ n. min (digits_value_after 10 n c.fraction_digits.result.now) (2 ^ 64)) first ∙ ap (λ ds. min (digits_value_after 10 (min (digits_value_after 10 0 whole) (2 ^ 64)) ds) (2 ^ 64)) c.fraction_digits.ensures in
    then ∙ sym (after_capped (digits_value_after 10 0 whole) (2 ^ 64) fraction) ∙ ap (λ n. min n (2 ^ 64)) (sym (after_append 0 whole fraction))
