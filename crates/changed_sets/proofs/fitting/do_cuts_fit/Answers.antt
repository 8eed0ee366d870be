use Rattle.std.proofs.Common.{arith, refl}
use Rattle.aging_cycles.proofs.FitLaws.{all_elements, element, one_more}
use Rattle.changed_sets.specs.Fitting.{FitWhere}
use Rattle.changed_sets.specs.declared.turns.Cut.{Cut}
use Rattle.changed_sets.proofs.fitting.do_cuts_fit.Goals as goal

pub loop-cut-preserved : goal.loop-cut-preserved
loop-cut-preserved c =
    one_more (λ i (x : Cut). FitWhere c.args.schema.now c.args.tree.now x.bare) c.args.cuts.now c.loop-cut.cut-index c.cut-item.result
    (element c.args.cuts.now c.loop-cut.cut-index c.cut-item.result c.loop-cut-test.true c.cut-item.is)
    (c.if-not-fit_where.ensures refl) c.loop-cut.invariant

pub returns : goal.returns
returns c = λ yes.
    all_elements (λ i (x : Cut). FitWhere c.args.schema.now c.args.tree.now x.bare) c.args.cuts.now c.loop-cut.cut-index
    (let end = c.loop-cut-test.false in omega (arith, end)) c.loop-cut.invariant
