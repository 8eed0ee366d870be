-- Some type holds each literal so far.
use Rattle.std.proofs.Common.{◌≡◌, drop}
use Rattle.cache_tier.specs.Called.{are_held}
use Rattle.group_catalog.proofs.call.are_held.Given as goal

abbrev pub invariant-loop-literal : goal.invariant-loop-literal
invariant-loop-literal l = are_held l.literals ≡ are_held (drop l.literal-index l.literals)
