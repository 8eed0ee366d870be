-- The root keys of the wants so far.
use Rattle.std.proofs.Common.{◌≡◌, ◌||◌, List, drop}
use Rattle.std.specs.FinMap.{contains_key}
use Rattle.std.specs.List.{list_any}
use Rattle.row_types.specs.declared.value.Value.{Value}
use Rattle.instances.specs.Roots.{root_of}
use Rattle.outside.specs.Changes.{is_root, is_wanted}
use Rattle.backing_gate.proofs.touching.wanted_roots.Given as goal

abbrev pub invariant-loop-want : goal.invariant-loop-want
invariant-loop-want l = (root : List Value) → (list_any (λ want. is_root root (root_of l.tables l.tree want.table want.key)) (drop l.want-index l.wants) || contains_key l.roots root) ≡ is_wanted l.tables l.tree l.wants root
