use Rattle.std.proofs.Common.{arith, refl}
use Rattle.aging_cycles.proofs.FitLaws.{all_elements, element, one_more}
use Rattle.changed_sets.specs.Fitting.{FitWhere}
use Rattle.changed_sets.specs.declared.turns.Turn.{Turn}
use Rattle.changed_sets.proofs.fitting.do_turns_fit.Goals as goal

pub loop-turn-preserved : goal.loop-turn-preserved
loop-turn-preserved c =
    one_more (λ i (x : Turn). FitWhere c.args.schema.now c.args.tree.now x.rows) c.args.turns.now c.loop-turn.turn-index c.turn-item.result
    (element c.args.turns.now c.loop-turn.turn-index c.turn-item.result c.loop-turn-test.true c.turn-item.is)
    (c.if-not-fit_where.ensures refl) c.loop-turn.invariant

pub returns : goal.returns
returns c = λ yes.
    all_elements (λ i (x : Turn). FitWhere c.args.schema.now c.args.tree.now x.rows) c.args.turns.now c.loop-turn.turn-index
    (let end = c.loop-turn-test.false in omega (arith, end)) c.loop-turn.invariant
