-- The columns so far, and those that are left.
use Rattle.std.proofs.Common.{◌≡◌, ◌++◌, drop}
use Rattle.resolution.specs.Placing.{expressions_seen}
use Rattle.resolution.specs.Queries.{places_from}
use Rattle.resolution.specs.Scopes.{shown}
use Rattle.resolution.proofs.listing.all_columns.Given as goal

abbrev pub invariant-loop-place : goal.invariant-loop-place
invariant-loop-place l = places_from 0 (shown l.scope) ≡ expressions_seen l.columns.items ++ places_from l.place (shown (drop l.place l.scope))
