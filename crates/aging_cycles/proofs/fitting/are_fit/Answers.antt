use Rattle.std.proofs.Common.{arith, refl}
use Rattle.aging_cycles.proofs.FitLaws.{all_tables_fit, element, one_more_table}
use Rattle.aging_cycles.proofs.fitting.are_fit.Goals as goal

pub loop-place-preserved : goal.loop-place-preserved
loop-place-preserved c =
    one_more_table c.args.schema.now c.args.tree.now c.args.tables.now c.loop-place.place c.index-tables-place.result
    (element c.args.tables.now c.loop-place.place c.index-tables-place.result c.loop-place-test.true c.index-tables-place.is) (c.if-not-is_fit_at.ensures refl) c.loop-place.invariant

pub returns : goal.returns
returns c = λ yes.
    all_tables_fit c.args.schema.now c.args.tree.now c.args.tables.now c.loop-place.place
    (let end = c.loop-place-test.false in omega (arith, end)) c.loop-place.invariant
