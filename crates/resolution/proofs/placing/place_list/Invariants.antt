-- What is made of the expressions so far, and those that are left.
use Rattle.std.proofs.Common.{◌≡◌, ◌++◌, ◌||◌, drop, map, take}
use Rattle.evaluator.specs.expressions.specs.Types.{family_of}
use Rattle.resolution.specs.Literals.{some_unheld}
use Rattle.resolution.specs.Placing.{expressions_seen, placed_list}
use Rattle.resolution.specs.Results.{then_make}
use Rattle.resolution.specs.Scopes.{families, shown}
use Rattle.resolution.specs.WrittenTypes.{written_families}
use Rattle.resolution.proofs.placing.place_list.Given as goal

abbrev pub invariant-loop-expression : goal.invariant-loop-expression
invariant-loop-expression l = record {
  placed : placed_list (shown l.scope) l.list ≡ then_make (λ es. expressions_seen l.placed.items ++ es) (placed_list (shown l.scope) (drop l.expression-index l.list));
  typed : map (λ e. family_of e (families (shown l.scope))) l.placed.items ≡ written_families (shown l.scope) (take l.expression-index l.list);
  held : l.unheld ≡ l.fn.unheld || some_unheld (take l.expression-index l.list);
}
