-- The places so far, and those that are left.
use Rattle.std.proofs.Common.{◌≡◌, ◌++◌, drop}
use Rattle.resolution.specs.Writes.{all_places}
use Rattle.resolution.proofs.assigning.all_places.Given as goal

abbrev pub invariant-loop-place : goal.invariant-loop-place
invariant-loop-place l = all_places 0 l.columns ≡ l.places.items ++ all_places l.place (drop l.place l.columns)
