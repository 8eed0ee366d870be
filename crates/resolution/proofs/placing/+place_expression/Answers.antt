use Rattle.std.proofs.Common.{arith}
use Rattle.std.proofs.lemmas.Grind.{common_steps}
use Rattle.resolution.specs.Placing.{expression_seen}
use Rattle.resolution.specs.Scopes.{shown}
use Rattle.resolution.proofs.ChainLaws.{chain_so_far, next_link, placed_chained, refused_links}
use Rattle.resolution.proofs.ChainMeasures.{nodes_of_chained, nodes_of_operand}
use Rattle.resolution.proofs.placing.+place_expression.Goals as goal

pub place_expression-place_chain-requires : goal.place_expression-place_chain-requires
place_expression-place_chain-requires t c = (grind (arith, nodes_of_chained), tt)

pub place_chain-returns-in_err-placed-clause-placed : goal.place_chain-returns-in_err-placed-clause-placed
place_chain-returns-in_err-placed-clause-placed t c = grind (arith, placed_chained (shown c.args.scope.now) c.args.first.now c.args.links.now, refused_links)

pub place_chain-loop-link-init : goal.place_chain-loop-link-init
place_chain-loop-link-init t c = grind (arith, placed_chained)

pub place_chain-place_expression-requires-in-loop-link : goal.place_chain-place_expression-requires-in-loop-link
place_chain-place_expression-requires-in-loop-link t c = (grind (arith, nodes_of_operand), tt)

pub place_chain-returns-in_err-operand-clause-placed : goal.place_chain-returns-in_err-operand-clause-placed
place_chain-returns-in_err-operand-clause-placed t c =
    grind (
      arith,
      next_link (shown c.args.scope.now) (expression_seen c.loop-link.placed) c.args.links.now c.loop-link.link-index c.link-item.result c.loop-link-test.true c.link-item.is,
      refused_links,
    )

pub place_chain-loop-link-preserved : goal.place_chain-loop-link-preserved
place_chain-loop-link-preserved t c =
    let so = chain_so_far c.args.first.now c.args.links.now c.loop-link.link-index c.link-item.result c.loop-link-test.true c.link-item.is in
    record {
      placed = grind (
        arith,
        next_link (shown c.args.scope.now) (expression_seen c.loop-link.placed) c.args.links.now c.loop-link.link-index c.link-item.result c.loop-link-test.true c.link-item.is,
      );
      typed = grind (arith, so);
      held = grind (arith, so);
    }

pub place_chain-returns-clause-placed : goal.place_chain-returns-clause-placed
place_chain-returns-clause-placed t c = grind (arith, common_steps)
