-- The cycles so far have run.
use Rattle.aging_cycles.specs.Running.{HaveRunTo}
use Rattle.aging_cycles.proofs.running.run_each.Given as goal

abbrev pub invariant-loop-place : goal.invariant-loop-place
invariant-loop-place l = HaveRunTo l.place l.initial.tier l.tier
