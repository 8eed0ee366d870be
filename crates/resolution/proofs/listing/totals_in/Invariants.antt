-- The aggregates so far.
use Rattle.std.proofs.Common.{◌≡◌, map, take}
use Rattle.resolution.specs.Queries.{total_of}
use Rattle.resolution.proofs.listing.totals_in.Given as goal

abbrev pub invariant-loop-aggregate : goal.invariant-loop-aggregate
invariant-loop-aggregate l = l.totals.items ≡ map total_of (take l.aggregate-index l.aggregates)
