use Rattle.changed_sets.proofs.ListSteps.{found}
use Rattle.changed_sets.proofs.PrepareSteps.{count_done, count_next}
use Rattle.changed_sets.proofs.preparing.count_turns.Goals as goal

pub loop-turn-preserved : goal.loop-turn-preserved
loop-turn-preserved c =
    count_next c.args.turns.now c.loop-turn.turn-index c.turn-item.result c.loop-turn.count _ (found c.args.turns.now c.loop-turn.turn-index c.turn-item.result c.loop-turn-test.true c.turn-item.is) c.loop-turn.invariant c.in_ok-count.ensures

pub returns : goal.returns
returns c = count_done c.args.turns.now c.loop-turn.turn-index c.loop-turn.count c.loop-turn-test.false c.loop-turn.invariant
