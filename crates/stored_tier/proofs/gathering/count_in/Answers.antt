use Rattle.std.proofs.Common.{◌∙◌, List, arith, sym}
use Rattle.std.specs.FinMap.{entries}
use Rattle.row_types.specs.declared.value.Value.{Value}
use Rattle.stored_tier.specs.Choosing.{matches_at}
use Rattle.stored_tier.proofs.GatherLaws.{counts_all, counts_more, counts_skip, few_counted}
use Rattle.stored_tier.proofs.gathering.count_in.Goals as goal
use Rattle.stored_tier.proofs.gathering.count_in.Goals.{then-matches, else-matches}

pub overflow_add-count : goal.overflow_add-count
overflow_add-count c =
    let so = c.loop-place.invariant in
    let few = few_counted (λ (e : List Value × List Value). matches_at c.args.which.now e.0 e.1) (entries c.args.rows.now) c.loop-place.place in
    omega (arith, so, few)

pub loop-place-preserved : goal.loop-place-preserved
loop-place-preserved c =
    let test : List Value × List Value → Rattle.std.proofs.Common.Bool = λ e. matches_at c.args.which.now e.0 e.1 in
    elim c.if-matches.branch [
      | then-matches w ↦ w.count-is ∙ counts_more test (entries c.args.rows.now) c.loop-place.place c.loop-place.count c.entry_at-entry.result.now c.entry_at-entry.ensures c.loop-place.invariant (sym c.matches.ensures ∙ w.if-matches.true)
      | else-matches w ↦ w.count-is ∙ counts_skip test (entries c.args.rows.now) c.loop-place.place c.loop-place.count c.entry_at-entry.result.now c.entry_at-entry.ensures c.loop-place.invariant (sym c.matches.ensures ∙ w.if-matches.false)
    ]

pub returns : goal.returns
returns c = counts_all (matches_at c.args.which.now) c.args.rows.now c.loop-place.place c.len-place-end.result c.loop-place.count c.loop-place.invariant c.len-place-end.ensures.value c.loop-place-test.false
