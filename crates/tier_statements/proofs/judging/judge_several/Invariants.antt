-- The operations so far are laid over the scan.
use Rattle.tier_statements.proofs.JudgeLaws.{Laid}
use Rattle.tier_statements.proofs.judging.judge_several.Given as goal

abbrev pub invariant-loop-op : goal.invariant-loop-op
invariant-loop-op g l = Laid (g.S.Scan.state l.scan) l.ops l.op-index l.own
