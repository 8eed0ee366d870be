use Rattle.std.proofs.Common.{ℕ, ◌++◌, subst}
use Rattle.std.specs.Fmt.{decimal}
use Rattle.reply_lines.specs.Output.{Breaks}
use Rattle.reply_lines.proofs.OutputLaws.{passes_failed, passes_then}
use Rattle.session_cli.proofs.unopened.write_damaged.Goals as goal

pub returns-in_err-put-clause-bytes : goal.returns-in_err-put-clause-bytes
returns-in_err-put-clause-bytes g c = passes_failed _ _ _ _ _ _ _ c.from_residual.ensures.0 c.in_err-put.ensures.bytes

pub returns-in_err-write_number-clause-bytes : goal.returns-in_err-write_number-clause-bytes
returns-in_err-write_number-clause-bytes g c =
    passes_then _ _ _ _ _ _ _ _ _ c.in_ok-put.ensures.bytes
    (passes_failed _ _ _ _ _ _ _ c.from_residual-in_err-write_number.ensures.0
    (subst (λ (n : ℕ). Breaks (g.K.Sink.written c.put.new.sink) (g.K.Sink.written c.write_number.new.sink) (c.put.new.self ++ decimal n)) c.slot_number.ensures c.in_err-write_number.ensures.bytes))

pub returns-clause-bytes : goal.returns-clause-bytes
returns-clause-bytes g c = passes_then _ _ _ _ _ _ _ _ _ c.in_ok-put.ensures.bytes (passes_then _ _ _ _ _ _ _ _ _ (rw (← c.slot_number.ensures) c.in_ok-write_number.ensures.bytes) c.write_numbered.ensures.bytes)
