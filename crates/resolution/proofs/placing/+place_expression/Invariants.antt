-- What is made of the operands so far, and those that are left.
use Rattle.std.proofs.Common.{◌≡◌, ◌||◌, ◌+◌, ◌*◌, drop, take}
use Rattle.std.specs.Prelude.{Ok}
use Rattle.evaluator.specs.expressions.specs.Types.{family_of}
use Rattle.sql_query.specs.Trees.{nodes_of_expression}
use Rattle.sql_query.specs.Views.{chained}
use Rattle.resolution.specs.Literals.{has_unheld}
use Rattle.resolution.specs.Placing.{expression_seen, placed_expression}
use Rattle.resolution.specs.Scopes.{families, shown}
use Rattle.resolution.specs.WrittenTypes.{written_family}
use Rattle.resolution.proofs.ChainLaws.{placed_links}
use Rattle.resolution.proofs.ChainMeasures.{nodes_of_links}
use Rattle.resolution.proofs.placing.+place_expression.Given as goal

abbrev pub decreases-place_expression : goal.decreases-place_expression
decreases-place_expression l = 2 * nodes_of_expression l.expression.now

abbrev pub decreases-place_chain : goal.decreases-place_chain
decreases-place_chain l = 2 * (nodes_of_expression l.first.now + nodes_of_links l.links.now) + 1

abbrev pub invariant-place_chain-loop-link : goal.invariant-place_chain-loop-link
invariant-place_chain-loop-link l = record {
  placed : placed_expression (shown l.scope) (chained l.first l.links) ≡ placed_links (shown l.scope) (Ok (expression_seen l.placed)) (drop l.link-index l.links);
  typed : family_of l.placed (families (shown l.scope)) ≡ written_family (shown l.scope) (chained l.first (take l.link-index l.links));
  held : l.unheld ≡ l.fn.unheld || has_unheld (chained l.first (take l.link-index l.links));
}
