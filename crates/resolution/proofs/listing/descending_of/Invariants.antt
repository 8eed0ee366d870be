-- The directions so far.
use Rattle.std.proofs.Common.{◌≡◌, map, take}
use Rattle.resolution.proofs.listing.descending_of.Given as goal

abbrev pub invariant-loop-item : goal.invariant-loop-item
invariant-loop-item l = l.descending.items ≡ map (λ item. item.descending) (take l.item-index l.items)
