use Rattle.std.proofs.Common.{◌≡◌, ◌<◌, ◌^◌, ◌∙◌, codes, Option, Some, None, Result, List, ℕ}
use Rattle.std.specs.Option.{unwrap_or}
use Rattle.std.specs.Str.Parse.{ExplainsUnsignedError, HasUnsignedDigitsIfOk, IsNumeral, ParsesUnsigned, digits_value, without_leading_plus}
use Rattle.clap.specs.Words.{ReadsOne, found_of}
use Rattle.clap.proofs.WalkLemmas.{one_text-rows}
use Rattle.command_line.proofs.command.count_in.Goals as goal

read_of : {E : Type 0} (A B : List ℕ → Result ℕ E → Type 0) (r : Option ℕ) (t : List ℕ) → ReadsOne (λ bs x. ParsesUnsigned 32 10 bs x × A bs x × B bs x) t r
    → IsNumeral 10 (without_leading_plus t) → digits_value 10 (without_leading_plus t) < 2 ^ 32 → unwrap_or r 0 ≡ digits_value 10 (without_leading_plus t)
read_of A B (Some v) t read numeral fits = read.0.1
read_of A B None t (e, read) numeral fits = absurd (read.0 (numeral, fits))

pub returns : goal.returns
returns c = λ t is numeral fits.
    let read = c.get_one.ensures.value t (one_text-rows (found_of c.args.values.now) (codes "N") ∙ is) in
    c.unwrap_or.ensures ∙ read_of (ExplainsUnsignedError 10) HasUnsignedDigitsIfOk c.get_one.result t read numeral fits
