-- The rows so far fit.
use Rattle.aging_cycles.proofs.FitLaws.{AllBelow}
use Rattle.changed_sets.specs.Fitting.{FitWhere}
use Rattle.changed_sets.specs.declared.turns.Cut.{Cut}
use Rattle.changed_sets.proofs.fitting.do_cuts_fit.Given as goal

abbrev pub invariant-loop-cut : goal.invariant-loop-cut
invariant-loop-cut l = AllBelow (λ i (x : Cut). FitWhere l.schema l.tree x.bare) l.cut-index l.cuts
