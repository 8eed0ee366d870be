use Rattle.std.proofs.Common.{◌∙◌, List, arith, sym}
use Rattle.std.specs.FinMap.{entries}
use Rattle.row_types.specs.declared.value.Value.{Value}
use Rattle.stored_tier.proofs.GatherLaws.{counts_all, counts_more, counts_skip, few_counted}
use Rattle.group_engine.specs.Touching.{is_held_match}
use Rattle.group_engine.proofs.touching.count_held_in.Goals as goal
use Rattle.group_engine.proofs.touching.count_held_in.Goals.{then-is_held_match, else-is_held_match}

pub overflow_add-count : goal.overflow_add-count
overflow_add-count c =
    let so = c.loop-place.invariant in
    let few = few_counted (λ (e : List Value × List Value). is_held_match c.args.which.now c.args.store.now c.args.hidden.now.table e.0 e.1) (entries c.args.rows.now) c.loop-place.place in
    omega (arith, so, few)

pub loop-place-preserved : goal.loop-place-preserved
loop-place-preserved c =
    elim c.if-is_held_match.branch [
      | then-is_held_match w ↦ w.count-is ∙ counts_more (λ (e : List Value × List Value). is_held_match c.args.which.now c.args.store.now c.args.hidden.now.table e.0 e.1) (entries c.args.rows.now) c.loop-place.place c.loop-place.count c.entry_at-entry.result.now c.entry_at-entry.ensures c.loop-place.invariant (sym c.is_held_match.ensures ∙ w.if-is_held_match.true)
      | else-is_held_match w ↦ w.count-is ∙ counts_skip (λ (e : List Value × List Value). is_held_match c.args.which.now c.args.store.now c.args.hidden.now.table e.0 e.1) (entries c.args.rows.now) c.loop-place.place c.loop-place.count c.entry_at-entry.result.now c.entry_at-entry.ensures c.loop-place.invariant (sym c.is_held_match.ensures ∙ w.if-is_held_match.false)
    ]

pub returns : goal.returns
returns c = counts_all (is_held_match c.args.which.now c.args.store.now c.args.hidden.now.table) c.args.rows.now c.loop-place.place c.len-place-end.result c.loop-place.count c.loop-place.invariant c.len-place-end.ensures.value c.loop-place-test.false
