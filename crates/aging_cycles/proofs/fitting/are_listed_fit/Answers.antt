use Rattle.std.proofs.Common.{arith, refl, subst}
use Rattle.aging_cycles.proofs.FitLaws.{ListFitsAt, all_lists_fit, element, one_more}
use Rattle.aging_cycles.proofs.fitting.are_listed_fit.Goals as goal

pub loop-place-preserved : goal.loop-place-preserved
loop-place-preserved c =
    one_more (ListFitsAt c.args.schema.now c.args.tree.now) c.args.lists.now c.loop-place.place c.index-lists-place.result
    (element c.args.lists.now c.loop-place.place c.index-lists-place.result c.loop-place-test.true c.index-lists-place.is)
    (subst (ListFitsAt c.args.schema.now c.args.tree.now c.loop-place.place) c.as_slice.ensures (c.if-not-is_list_fit_at.ensures refl)) c.loop-place.invariant

pub returns : goal.returns
returns c = λ yes.
    all_lists_fit c.args.schema.now c.args.tree.now c.args.lists.now c.loop-place.place
    (let end = c.loop-place-test.false in omega (arith, end)) c.loop-place.invariant
