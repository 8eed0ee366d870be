use Rattle.std.proofs.Common.{◌≡◌, length}
use Rattle.stored_tier.specs.Refreshing.{exchanged, made_hidden, made_stores}
use Rattle.stored_tier.proofs.refreshing.exchange.Given as goal

abbrev pub invariant-loop-one : goal.invariant-loop-one
invariant-loop-one l = record {
  stores : exchanged l.stores.items (made_stores l.made.items) ≡ exchanged l.fn.stores.items (made_stores l.fn.made.items);
  hidden : exchanged l.hidden.items (made_hidden l.made.items) ≡ exchanged l.fn.hidden.items (made_hidden l.fn.made.items);
}

abbrev pub decreases-loop-one : goal.decreases-loop-one
decreases-loop-one l = length l.made.items
