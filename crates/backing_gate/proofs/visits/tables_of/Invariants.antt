use Rattle.std.proofs.Common.{◌≡◌, take}
use Rattle.backing_gate.specs.Visits.{tables_of}
use Rattle.backing_gate.proofs.visits.tables_of.Given as goal

abbrev pub invariant-loop-change : goal.invariant-loop-change
invariant-loop-change l = l.tables.items ≡ tables_of (take l.change-index l.changes)
