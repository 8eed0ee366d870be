-- The writes so far, and those that are left.
use Rattle.std.proofs.Common.{◌≡◌, ◌++◌, drop, map}
use Rattle.resolution.specs.Results.{then_make}
use Rattle.resolution.specs.Writes.{change_seen, named_writes}
use Rattle.resolution.proofs.write.name_writes.Given as goal

abbrev pub invariant-loop-write : goal.invariant-loop-write
invariant-loop-write l = named_writes l.schema l.writes ≡ then_make (λ rest. map (then_make change_seen) l.named.items ++ rest) (named_writes l.schema (drop l.write-index l.writes))
