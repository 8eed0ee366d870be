-- The columns of the tables so far.
use Rattle.std.proofs.Common.{◌≡◌, take}
use Rattle.resolution.specs.Scopes.{scope_of, shown}
use Rattle.resolution.proofs.scope.scope_of.Given as goal

abbrev pub invariant-loop-from : goal.invariant-loop-from
invariant-loop-from l = shown l.scope.items ≡ scope_of l.schema (take l.from-index l.tables)
