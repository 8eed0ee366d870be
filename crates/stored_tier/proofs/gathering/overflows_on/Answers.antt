use Rattle.std.proofs.Common.{◌≡◌, ◌∙◌, false, is_none, rules, sym, true}
use Rattle.std.specs.FinMap.{values}
use Rattle.evaluator.specs.Writes.{selects}
use Rattle.stored_tier.proofs.GatherLaws.{none_at_all, none_more, some_there, values_long}
use Rattle.stored_tier.proofs.gathering.overflows_on.Goals as goal

pub returns-then-is_none : goal.returns-then-is_none
returns-then-is_none c =
    let good : is_none (selects c.args.which.now.filter c.row_at.result.now) ≡ true = first_of (search rules, cc) in
    sym (some_there (λ row. is_none (selects c.args.which.now.filter row)) (values c.args.rows.now) c.loop-place.place c.row_at.result.now c.row_at.ensures good)

pub loop-place-preserved : goal.loop-place-preserved
loop-place-preserved c =
    let bad : is_none (selects c.args.which.now.filter c.row_at.result.now) ≡ false = first_of (search rules, cc) in
    none_more (λ row. is_none (selects c.args.which.now.filter row)) (values c.args.rows.now) c.loop-place.place c.row_at.result.now c.row_at.ensures c.loop-place.invariant bad

pub returns : goal.returns
returns c =
    sym (none_at_all (λ row. is_none (selects c.args.which.now.filter row)) (values c.args.rows.now) c.loop-place.place c.len-place-end.result c.loop-place.invariant (c.len-place-end.ensures.value ∙ sym (values_long c.args.rows.now)) c.loop-place-test.false)
