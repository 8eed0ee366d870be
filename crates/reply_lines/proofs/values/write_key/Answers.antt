use Rattle.reply_lines.proofs.OutputLaws.{passes_failed, passes_then}
use Rattle.reply_lines.proofs.values.write_key.Goals as goal

pub returns-in_err-write_value-in-Some-clause-bytes : goal.returns-in_err-write_value-in-Some-clause-bytes
returns-in_err-write_value-in-Some-clause-bytes g c =
    rw (← c.values.ensures, c.in-Some.ensures.cases.0) (passes_failed _ _ _ _ _ _ _ c.from_residual.ensures.0 c.in_err-write_value-in-Some.ensures.bytes)

pub returns-in_ok-write_value-in-Some-clause-bytes : goal.returns-in_ok-write_value-in-Some-clause-bytes
returns-in_ok-write_value-in-Some-clause-bytes g c =
    rw (← c.values.ensures, c.in-Some.ensures.cases.0) (passes_then _ _ _ _ _ _ _ _ _ c.in_ok-write_value-in-Some.ensures.bytes c.write_behind.ensures.bytes)
