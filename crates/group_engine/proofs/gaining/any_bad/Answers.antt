use Rattle.std.proofs.Common.{◌∙◌, List, sym}
use Rattle.std.specs.FinMap.{entries, len-entries}
use Rattle.row_types.specs.declared.value.Value.{Value}
use Rattle.group_catalog.specs.Kept.{group_seen}
use Rattle.stored_tier.proofs.GatherLaws.{none_at_all, none_more, some_there}
use Rattle.group_engine.specs.Gaining.{is_bad}
use Rattle.group_engine.proofs.gaining.any_bad.Goals as goal

pub returns-then-is_bad : goal.returns-then-is_bad
returns-then-is_bad c = sym (some_there (λ (e : List Value × List Value). is_bad c.args.refreshes c.args.which.now (group_seen c.args.group.now) c.args.store.now c.args.hidden.now.table e.0 e.1) (entries c.args.rows.now) c.loop-place.place c.entry_at-entry.result.now c.entry_at-entry.ensures (sym c.is_bad.ensures ∙ c.if-is_bad.true))

pub loop-place-preserved : goal.loop-place-preserved
loop-place-preserved c = none_more (λ (e : List Value × List Value). is_bad c.args.refreshes c.args.which.now (group_seen c.args.group.now) c.args.store.now c.args.hidden.now.table e.0 e.1) (entries c.args.rows.now) c.loop-place.place c.entry_at-entry.result.now c.entry_at-entry.ensures c.loop-place.invariant (sym c.is_bad.ensures ∙ c.if-is_bad.false)

pub returns : goal.returns
returns c = sym (none_at_all (λ (e : List Value × List Value). is_bad c.args.refreshes c.args.which.now (group_seen c.args.group.now) c.args.store.now c.args.hidden.now.table e.0 e.1) (entries c.args.rows.now) c.loop-place.place c.len-place-end.result c.loop-place.invariant (c.len-place-end.ensures.value ∙ len-entries c.args.rows.now) c.loop-place-test.false)
