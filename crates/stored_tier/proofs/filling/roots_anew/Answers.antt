use Rattle.std.proofs.Common.{◌∙◌, sym}
use Rattle.group_catalog.specs.Kept.{group_seen}
use Rattle.stored_tier.specs.Filling.{comes_anew}
use Rattle.stored_tier.proofs.GatherLaws.{none_chosen}
use Rattle.stored_tier.proofs.filling.roots_anew.Goals as goal

pub returns-in-None : goal.returns-in-None
returns-in-None c =
    c.new.ensures ∙ sym (none_chosen (comes_anew (group_seen c.args.group.now) c.args.old.now c.args.hidden.now.table) c.args.tables.now.tables c.args.group.now.def.tree.root.table.0 c.in-None.ensures)
