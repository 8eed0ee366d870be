-- What is made of the items so far, and those that are left.
use Rattle.std.proofs.Common.{◌≡◌, ◌++◌, ◌||◌, drop, map, take}
use Rattle.evaluator.specs.expressions.specs.Types.{family_of}
use Rattle.resolution.specs.Literals.{some_unheld}
use Rattle.resolution.specs.Placing.{expressions_seen, placed_list}
use Rattle.resolution.specs.Queries.{tree_of_item}
use Rattle.resolution.specs.Results.{then_make}
use Rattle.resolution.specs.Scopes.{families, shown}
use Rattle.resolution.specs.WrittenTypes.{written_families}
use Rattle.resolution.proofs.listing.place_items.Given as goal

abbrev pub invariant-loop-item : goal.invariant-loop-item
invariant-loop-item l = record {
  placed : placed_list (shown l.scope) (map tree_of_item l.items) ≡ then_make (λ es. expressions_seen l.exprs.items ++ es) (placed_list (shown l.scope) (map tree_of_item (drop l.item-index l.items)));
  typed : map (λ e. family_of e (families (shown l.scope))) l.exprs.items ≡ written_families (shown l.scope) (map tree_of_item (take l.item-index l.items));
  held : l.unheld ≡ l.fn.unheld || some_unheld (map tree_of_item (take l.item-index l.items));
}
