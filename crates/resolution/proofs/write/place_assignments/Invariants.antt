-- What SET sets so far, and the assignments that are left.
use Rattle.std.proofs.Common.{◌≡◌, ◌||◌, drop, map, take}
use Rattle.evaluator.specs.expressions.specs.Types.{family_of}
use Rattle.resolution.specs.Literals.{some_unheld}
use Rattle.resolution.specs.Placing.{expressions_seen}
use Rattle.resolution.specs.Scopes.{families, shown}
use Rattle.resolution.specs.WrittenTypes.{written_families}
use Rattle.resolution.specs.Writes.{assignments_behind, no_assignments, values_set}
use Rattle.resolution.proofs.write.place_assignments.Given as goal

abbrev pub invariant-loop-assignment : goal.invariant-loop-assignment
invariant-loop-assignment l = record {
  placed : assignments_behind l.columns (shown l.scope) no_assignments l.assignments ≡ assignments_behind l.columns (shown l.scope) (record { targets = l.targets.items; values = expressions_seen l.values.items }) (drop l.assignment-index l.assignments);
  typed : map (λ e. family_of e (families (shown l.scope))) l.values.items ≡ written_families (shown l.scope) (values_set (take l.assignment-index l.assignments));
  held : l.unheld ≡ l.fn.unheld || some_unheld (values_set (take l.assignment-index l.assignments));
}
