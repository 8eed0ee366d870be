use Rattle.std.proofs.Common.{ℕ, ◌/◌, ◌++◌, subst}
use Rattle.std.specs.Fmt.{decimal}
use Rattle.numbers.specs.NumberTexts.{printed_fraction}
use Rattle.reply_lines.specs.Output.{Passes}
use Rattle.reply_lines.proofs.OutputLaws.{passes_failed, passes_then}
use Rattle.reply_lines.proofs.values.write_magnitude.Goals as goal

pub returns-in_err-write_number-clause-bytes : goal.returns-in_err-write_number-clause-bytes
returns-in_err-write_number-clause-bytes g c =
    subst
    (λ (k : ℕ). Passes c.from_residual.result (g.K.Sink.written c.args.sink.now) (g.K.Sink.written c.write_number.new.sink) c.args.output.now c.write_number.new.output (decimal (c.args.units / k) ++ printed_fraction c.args.scale c.args.units))
    c.power_of_ten.ensures.value
    (passes_failed _ _ _ _ _ _ _ c.from_residual.ensures.0 c.in_err-write_number.ensures.bytes)

pub returns-clause-bytes : goal.returns-clause-bytes
returns-clause-bytes g c =
    subst
    (λ (k : ℕ). Passes c.write_fraction.result (g.K.Sink.written c.args.sink.now) (g.K.Sink.written c.write_fraction.new.sink) c.args.output.now c.write_fraction.new.output (decimal (c.args.units / k) ++ printed_fraction c.args.scale c.args.units))
    c.power_of_ten.ensures.value
    (passes_then _ _ _ _ _ _ _ _ _ c.in_ok-write_number.ensures.bytes c.write_fraction.ensures.bytes)
