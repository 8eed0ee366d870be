-- The rows so far fit.
use Rattle.aging_cycles.proofs.FitLaws.{AllBelow}
use Rattle.changed_sets.specs.Fitting.{FitWhere}
use Rattle.changed_sets.specs.declared.turns.Turn.{Turn}
use Rattle.changed_sets.proofs.fitting.do_turns_fit.Given as goal

abbrev pub invariant-loop-turn : goal.invariant-loop-turn
invariant-loop-turn l = AllBelow (λ i (x : Turn). FitWhere l.schema l.tree x.rows) l.turn-index l.turns
