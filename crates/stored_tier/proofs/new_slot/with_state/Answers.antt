use Rattle.std.specs.Prelude.{List}
use Rattle.std.proofs.Common.{subst, ◌∙◌, rules, sym}
use Rattle.table_defs.specs.declared.definition.TableDef.{TableDef}
use Rattle.cache_tier.specs.Journals.{SetsState}
use Rattle.tier_journal.specs.Batches.{Adds}
use Rattle.group_catalog.specs.Kept.{group_seen}
use Rattle.stored_tier.specs.NewSlots.{state_entry}
use Rattle.stored_tier.proofs.NewSlotLaws.{adds_one, state_added, state_none}
use Rattle.stored_tier.proofs.new_slot.with_state.Goals as goal

pub returns-then-not-is_read_only : goal.returns-then-not-is_read_only
returns-then-not-is_read_only c = state_none (group_seen c.args.group.now) c.args.batch (sym c.is_read_only.ensures ∙ c.if-not-is_read_only.true)

pub returns : goal.returns
returns c =
    state_added (group_seen c.args.group.now) c.args.batch c.in_ok-made.made (sym c.is_read_only.ensures ∙ c.if-not-is_read_only.false)
    (adds_one (state_entry (group_seen c.args.group.now)) c.args.batch c.in_ok-made.made (λ schema. Prim.search rules) (subst (λ name. (schema : List TableDef) → Adds schema c.args.batch c.in_ok-made.made (SetsState name c.args.group.now.state)) c.as_bytes-name.ensures c.in_ok-made.ensures))
