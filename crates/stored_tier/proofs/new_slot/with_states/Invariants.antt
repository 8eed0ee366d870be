use Rattle.std.proofs.Common.{take}
use Rattle.group_catalog.specs.Catalogs.{groups_in}
use Rattle.stored_tier.specs.NewSlots.{AddsAll, state_entries}
use Rattle.stored_tier.proofs.new_slot.with_states.Given as goal

abbrev pub invariant-loop-place : goal.invariant-loop-place
invariant-loop-place l = AddsAll (state_entries (take l.place (groups_in l.catalog))) l.fn.batch l.batch
