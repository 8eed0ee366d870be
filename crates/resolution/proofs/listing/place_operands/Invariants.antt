-- What is made of the operands so far, and those that are left.
use Rattle.std.proofs.Common.{◌≡◌, ◌++◌, ◌||◌, drop, map, take}
use Rattle.evaluator.specs.expressions.specs.Types.{family_of}
use Rattle.resolution.specs.Literals.{some_unheld}
use Rattle.resolution.specs.Placing.{expressions_seen, placed_list}
use Rattle.resolution.specs.Queries.{operand_of}
use Rattle.resolution.specs.Results.{then_make}
use Rattle.resolution.specs.Scopes.{families, shown}
use Rattle.resolution.specs.WrittenTypes.{written_families}
use Rattle.resolution.proofs.listing.place_operands.Given as goal

abbrev pub invariant-loop-aggregate : goal.invariant-loop-aggregate
invariant-loop-aggregate l = record {
  placed : placed_list (shown l.scope) (map operand_of l.aggregates) ≡ then_make (λ es. expressions_seen l.operands.items ++ es) (placed_list (shown l.scope) (map operand_of (drop l.aggregate-index l.aggregates)));
  typed : map (λ e. family_of e (families (shown l.scope))) l.operands.items ≡ written_families (shown l.scope) (map operand_of (take l.aggregate-index l.aggregates));
  held : l.unheld ≡ l.fn.unheld || some_unheld (map operand_of (take l.aggregate-index l.aggregates));
}
