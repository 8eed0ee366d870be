use Rattle.std.proofs.Common.{◌∙◌}
use Rattle.pending_writes.proofs.pending.sweep_two.Goals as goal

pub returns : goal.returns
returns c = λ k. c.sweep-2.ensures k ∙ c.sweep.ensures k
