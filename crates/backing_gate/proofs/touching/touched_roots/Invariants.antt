-- The root keys of the wants, and of the changes so far.
use Rattle.std.proofs.Common.{◌≡◌, ◌||◌, List, drop}
use Rattle.std.specs.FinMap.{contains_key}
use Rattle.std.specs.List.{list_any}
use Rattle.row_types.specs.declared.value.Value.{Value}
use Rattle.outside.specs.Changes.{is_touched, touches}
use Rattle.backing_gate.proofs.touching.touched_roots.Given as goal

abbrev pub invariant-loop-change : goal.invariant-loop-change
invariant-loop-change l = (root : List Value) → (list_any (touches l.tables l.tree root) (drop l.change-index l.log) || contains_key l.roots root) ≡ is_touched l.tables l.tree l.log l.wants root
