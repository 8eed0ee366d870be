-- The tables so far have rows that fit.
use Rattle.aging_cycles.proofs.FitLaws.{AreFitBelow}
use Rattle.aging_cycles.proofs.fitting.are_fit.Given as goal

abbrev pub invariant-loop-place : goal.invariant-loop-place
invariant-loop-place l = AreFitBelow l.place l.schema l.tree l.tables
