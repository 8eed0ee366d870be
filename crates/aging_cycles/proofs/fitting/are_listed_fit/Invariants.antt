-- The lists so far have rows that fit.
use Rattle.aging_cycles.proofs.FitLaws.{AllBelow, ListFitsAt}
use Rattle.aging_cycles.proofs.fitting.are_listed_fit.Given as goal

abbrev pub invariant-loop-place : goal.invariant-loop-place
invariant-loop-place l = AllBelow (ListFitsAt l.schema l.tree) l.place l.lists
