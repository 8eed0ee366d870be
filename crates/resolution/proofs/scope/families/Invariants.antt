-- The families of the columns so far.
use Rattle.std.proofs.Common.{◌≡◌, take}
use Rattle.resolution.specs.Scopes.{families, shown}
use Rattle.resolution.proofs.scope.families.Given as goal

abbrev pub invariant-loop-seen : goal.invariant-loop-seen
invariant-loop-seen l = l.found.items ≡ families (shown (take l.seen-index l.scope))
