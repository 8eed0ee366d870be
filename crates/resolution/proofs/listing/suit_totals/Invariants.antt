-- The aggregates and operands that are left decide.
use Rattle.std.proofs.Common.{◌≡◌, map}
use Rattle.std.specs.Iterator.Adapters.{zip_first, zip_second}
use Rattle.std.specs.Slice.Iter.{iter_rest}
use Rattle.resolution.specs.Queries.{suit_totals, total_of}
use Rattle.resolution.proofs.PairLaws.{families_of}
use Rattle.resolution.proofs.listing.suit_totals.Given as goal

abbrev pub invariant-loop-aggregate : goal.invariant-loop-aggregate
invariant-loop-aggregate l =
    suit_totals (map total_of l.aggregates) (families_of l.families l.operands)
    ≡ suit_totals (map total_of (iter_rest (zip_first l.aggregate-iterator))) (families_of l.families (iter_rest (zip_second l.aggregate-iterator)))
