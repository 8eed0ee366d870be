use Rattle.std.proofs.Common.{◌≡◌, ◌∙◌, ap, arith, sym, true}
use Rattle.table_state.specs.Tables.{fits_columns}
use Rattle.aging_cycles.proofs.FitLaws.{all_elements, element, one_more}
use Rattle.aging_cycles.proofs.fitting.do_fit.Goals as goal

pub loop-row-preserved : goal.loop-row-preserved
loop-row-preserved c =
    one_more (λ i row. fits_columns c.args.columns.now row ≡ true) c.args.rows.now c.loop-row.row-index c.row-item.result
    (element c.args.rows.now c.loop-row.row-index c.row-item.result c.loop-row-test.true c.row-item.is)
    (ap (fits_columns c.args.columns.now) (sym c.values.ensures) ∙ sym c.fit.ensures ∙ c.if-not-fit.false) c.loop-row.invariant

pub returns : goal.returns
returns c = λ yes.
    all_elements (λ i row. fits_columns c.args.columns.now row ≡ true) c.args.rows.now c.loop-row.row-index
    (let end = c.loop-row-test.false in omega (arith, end)) c.loop-row.invariant
