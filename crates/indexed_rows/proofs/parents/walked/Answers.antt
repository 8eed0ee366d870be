use Rattle.std.proofs.Common.{rules, sym, ◌∙◌, arith}
use Rattle.std.specs.FinMap as fm
use Rattle.std.proofs.lemmas.List.{length-map}
use Rattle.indexed_rows.specs.Rows.{has_key}
use Rattle.indexed_rows.proofs.FirstLaws.{here, no_more, not_here}
use Rattle.indexed_rows.proofs.parents.walked.Goals as goal

pub returns-then-has_key : goal.returns-then-has_key
returns-then-has_key c =
    sym (c.loop-place.invariant ∙ here (has_key c.args.columns.now c.args.key.now) (fm.values c.args.rows.now) c.loop-place.place c.row_at.result.now c.row_at.ensures (search rules))

pub loop-place-preserved : goal.loop-place-preserved
loop-place-preserved c =
    c.loop-place.invariant ∙ not_here (has_key c.args.columns.now c.args.key.now) (fm.values c.args.rows.now) c.loop-place.place c.row_at.result.now c.row_at.ensures (search rules)

-- no row is left
pub returns : goal.returns
returns c =
    sym (c.loop-place.invariant ∙ no_more (has_key c.args.columns.now c.args.key.now) (fm.values c.args.rows.now) c.loop-place.place (omega (arith, length-map (fm.entries c.args.rows.now) (λ x. x.1), fm.len-entries c.args.rows.now)))
