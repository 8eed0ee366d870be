use Rattle.std.proofs.Common.{arith}
use Rattle.std.proofs.lemmas.Grind.{common_steps}
use Rattle.resolution.specs.Placing.{And, Or, condition_seen}
use Rattle.resolution.specs.Scopes.{shown}
use Rattle.resolution.proofs.ChainLaws.{all_so_far, any_so_far, next_other, placed_all, placed_any, refused_others}
use Rattle.resolution.proofs.ChainMeasures.{nodes_of_all, nodes_of_any, nodes_of_other}
use Rattle.resolution.proofs.placing.+place_condition.Goals as goal

pub place_condition-place_all-requires : goal.place_condition-place_all-requires
place_condition-place_all-requires t c = (grind (arith, nodes_of_all), tt)

pub place_all-returns-in_err-placed-clause-placed : goal.place_all-returns-in_err-placed-clause-placed
place_all-returns-in_err-placed-clause-placed t c =
    grind (arith, placed_all (shown c.args.scope.now) c.args.first.now c.args.others.now, refused_others)

pub place_all-loop-other-init : goal.place_all-loop-other-init
place_all-loop-other-init t c = grind (arith, placed_all)

pub place_all-place_condition-requires-in-loop-other : goal.place_all-place_condition-requires-in-loop-other
place_all-place_condition-requires-in-loop-other t c = (grind (arith, nodes_of_other), tt)

pub place_all-returns-in_err-cond-clause-placed : goal.place_all-returns-in_err-cond-clause-placed
place_all-returns-in_err-cond-clause-placed t c =
    grind (
      arith,
      next_other And (shown c.args.scope.now) (condition_seen c.loop-other.placed) c.args.others.now c.loop-other.other-index c.other-item.result c.loop-other-test.true c.other-item.is,
      refused_others,
    )

pub place_all-loop-other-preserved : goal.place_all-loop-other-preserved
place_all-loop-other-preserved t c =
    let so = all_so_far c.args.first.now c.args.others.now c.loop-other.other-index c.other-item.result c.loop-other-test.true c.other-item.is in
    record {
      placed = grind (
        arith,
        next_other And (shown c.args.scope.now) (condition_seen c.loop-other.placed) c.args.others.now c.loop-other.other-index c.other-item.result c.loop-other-test.true c.other-item.is,
      );
      typed = grind (arith, so);
      held = grind (arith, so);
    }

pub place_all-returns-clause-placed : goal.place_all-returns-clause-placed
place_all-returns-clause-placed t c = grind (arith, common_steps)

pub place_condition-place_any-requires : goal.place_condition-place_any-requires
place_condition-place_any-requires t c = (grind (arith, nodes_of_any), tt)

pub place_any-returns-in_err-placed-clause-placed : goal.place_any-returns-in_err-placed-clause-placed
place_any-returns-in_err-placed-clause-placed t c =
    grind (arith, placed_any (shown c.args.scope.now) c.args.first.now c.args.others.now, refused_others)

pub place_any-loop-other-init : goal.place_any-loop-other-init
place_any-loop-other-init t c = grind (arith, placed_any)

pub place_any-place_condition-requires-in-loop-other : goal.place_any-place_condition-requires-in-loop-other
place_any-place_condition-requires-in-loop-other t c = (grind (arith, nodes_of_other), tt)

pub place_any-returns-in_err-cond-clause-placed : goal.place_any-returns-in_err-cond-clause-placed
place_any-returns-in_err-cond-clause-placed t c =
    grind (
      arith,
      next_other Or (shown c.args.scope.now) (condition_seen c.loop-other.placed) c.args.others.now c.loop-other.other-index c.other-item.result c.loop-other-test.true c.other-item.is,
      refused_others,
    )

pub place_any-loop-other-preserved : goal.place_any-loop-other-preserved
place_any-loop-other-preserved t c =
    let so = any_so_far c.args.first.now c.args.others.now c.loop-other.other-index c.other-item.result c.loop-other-test.true c.other-item.is in
    record {
      placed = grind (
        arith,
        next_other Or (shown c.args.scope.now) (condition_seen c.loop-other.placed) c.args.others.now c.loop-other.other-index c.other-item.result c.loop-other-test.true c.other-item.is,
      );
      typed = grind (arith, so);
      held = grind (arith, so);
    }

pub place_any-returns-clause-placed : goal.place_any-returns-clause-placed
place_any-returns-clause-placed t c = grind (arith, common_steps)
