use Rattle.changed_sets.proofs.ListSteps.{found}
use Rattle.changed_sets.proofs.PrepareSteps.{cuts_done, cuts_next}
use Rattle.changed_sets.proofs.preparing.count_cuts.Goals as goal

pub loop-cut-preserved : goal.loop-cut-preserved
loop-cut-preserved c =
    cuts_next c.args.cuts.now c.loop-cut.cut-index c.cut-item.result c.loop-cut.count _ (found c.args.cuts.now c.loop-cut.cut-index c.cut-item.result c.loop-cut-test.true c.cut-item.is) c.loop-cut.invariant c.in_ok-count.ensures

pub returns : goal.returns
returns c = cuts_done c.args.cuts.now c.loop-cut.cut-index c.loop-cut.count c.loop-cut-test.false c.loop-cut.invariant
