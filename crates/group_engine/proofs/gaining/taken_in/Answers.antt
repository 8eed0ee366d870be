use Rattle.std.proofs.Common.{◌∙◌, sym}
use Rattle.group_catalog.specs.Kept.{group_seen}
use Rattle.stored_tier.proofs.GatherLaws.{none_chosen}
use Rattle.group_engine.specs.Gaining.{is_taken}
use Rattle.group_engine.proofs.gaining.taken_in.Goals as goal

pub returns-in-None : goal.returns-in-None
returns-in-None c = c.new.ensures ∙ sym (none_chosen (is_taken c.args.refreshes c.args.which.now (group_seen c.args.group.now) c.args.store.now c.args.hidden.now.table) c.args.tables.now.tables c.args.group.now.def.tree.root.table.0 c.in-None.ensures)
