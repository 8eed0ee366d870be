-- The instances of the root keys so far, and of those that are left.
use Rattle.std.proofs.Common.{◌≡◌, ◌++◌, drop, map}
use Rattle.std.specs.FinMap.{entries}
use Rattle.backing_gate.specs.Touching.{touched_at}
use Rattle.backing_gate.proofs.touching.under_roots.Given as goal

abbrev pub invariant-loop-place : goal.invariant-loop-place
invariant-loop-place l = l.out.items ++ map (λ entry. touched_at l.tables l.tree l.wanted entry.0) (drop l.place (entries l.roots)) ≡ map (λ entry. touched_at l.tables l.tree l.wanted entry.0) (entries l.roots)
