use Rattle.std.proofs.Common.{ℕ, List, sym, subst, arith}
use Rattle.reply_lines.specs.Output.{Passes}
use Rattle.reply_lines.proofs.OutputLaws.{passes_failed, passes_then}
use Rattle.reply_lines.proofs.DigitLaws.{last_digits_more}
use Rattle.reply_lines.proofs.values.+write_last_digits.Goals as goal

pub returns-in_err-write_last_digits-clause-bytes : goal.returns-in_err-write_last_digits-clause-bytes
returns-in_err-write_last_digits-clause-bytes g t c =
    subst (λ (bytes : List ℕ). Passes c.from_residual.result (g.K.Sink.written c.args.sink.now) (g.K.Sink.written c.write_last_digits.new.sink) c.args.output.now c.write_last_digits.new.output bytes)
    (sym (last_digits_more c.args.count c.args.number (Prim.grind arith)))
    (passes_failed _ _ _ _ _ _ _ c.from_residual.ensures.0 c.in_err-write_last_digits.ensures.bytes)

pub returns-clause-bytes : goal.returns-clause-bytes
returns-clause-bytes g t c =
    subst (λ (bytes : List ℕ). Passes c.put-2.result (g.K.Sink.written c.args.sink.now) (g.K.Sink.written c.put-2.new.sink) c.args.output.now c.put-2.new.self bytes)
    (sym (last_digits_more c.args.count c.args.number (Prim.grind arith)))
    (passes_then _ _ _ _ _ _ _ _ _ c.in_ok-write_last_digits.ensures.bytes c.put-2.ensures.bytes)
