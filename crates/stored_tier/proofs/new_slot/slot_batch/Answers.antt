use Rattle.std.proofs.Common.{◌∙◌, subst}
use Rattle.group_catalog.specs.Catalogs.{groups_in}
use Rattle.stored_tier.specs.NewSlots.{AddsAll, flag_entries, state_entries}
use Rattle.stored_tier.proofs.NewSlotLaws.{slot_holds}
use Rattle.stored_tier.proofs.new_slot.slot_batch.Goals as goal

pub returns-clause-begins : goal.returns-clause-begins
returns-clause-begins c = c.in_ok-flagged.ensures.begins ∙ c.in_ok-turned.ensures.begins ∙ c.in_ok-defined.ensures.adds.begins ∙ c.in_ok-marked.ensures.begins

pub returns-clause-holds : goal.returns-clause-holds
returns-clause-holds c =
    let same = c.with_definitions.ensures.same in
    slot_holds c.args.next (groups_in c.args.catalog.now) c.in_ok-marked.marked c.in_ok-defined.defined c.in_ok-turned.turned c.in_ok-flagged.flagged c.in_ok-marked.ensures.holds c.in_ok-defined.ensures.adds
    (subst (λ k. AddsAll (state_entries (groups_in k)) c.in_ok-defined.defined c.in_ok-turned.turned) same c.in_ok-turned.ensures)
    (subst (λ k. AddsAll (flag_entries (groups_in k)) c.in_ok-turned.turned c.in_ok-flagged.flagged) same c.in_ok-flagged.ensures)
