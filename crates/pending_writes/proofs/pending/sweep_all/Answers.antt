use Rattle.std.proofs.Common.{◌∙◌}
use Rattle.pending_writes.proofs.pending.sweep_all.Goals as goal

pub loop-op-preserved : goal.loop-op-preserved
loop-op-preserved c = λ k. c.sweep_two.ensures k ∙ c.loop-op.invariant k
