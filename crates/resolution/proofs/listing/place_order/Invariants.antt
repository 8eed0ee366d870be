-- The places so far, and the items that are left.
use Rattle.std.proofs.Common.{◌≡◌, ◌++◌, drop}
use Rattle.resolution.specs.Queries.{placed_order}
use Rattle.resolution.specs.Results.{then_make}
use Rattle.resolution.specs.Scopes.{shown}
use Rattle.resolution.proofs.listing.place_order.Given as goal

abbrev pub invariant-loop-item : goal.invariant-loop-item
invariant-loop-item l = placed_order (shown l.scope) l.items ≡ then_make (λ ps. l.places.items ++ ps) (placed_order (shown l.scope) (drop l.item-index l.items))
