use Rattle.std.proofs.Common.{[], ◌∷◌}
use Rattle.reply_lines.proofs.OutputLaws.{passes_failed, passes_then}
use Rattle.reply_lines.proofs.replies.write_rule_line.Goals as goal

pub returns-in_err-write_rule-clause-bytes : goal.returns-in_err-write_rule-clause-bytes
returns-in_err-write_rule-clause-bytes g c = passes_failed _ _ _ _ _ _ (10 ∷ []) c.from_residual.ensures.0 c.in_err-write_rule.ensures.bytes

pub returns-clause-bytes : goal.returns-clause-bytes
returns-clause-bytes g c = passes_then _ _ _ _ _ _ _ _ _ c.in_ok-write_rule.ensures.bytes c.put.ensures.bytes
