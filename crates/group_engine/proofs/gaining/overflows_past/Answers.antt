use Rattle.std.proofs.Common.{◌∙◌, ap, sym}
use Rattle.group_catalog.specs.Kept.{group_seen}
use Rattle.stored_tier.proofs.GatherLaws.{table_none}
use Rattle.group_engine.specs.Gaining.{any_bad, is_bad}
use Rattle.group_engine.proofs.GainingLaws.{none_bad}
use Rattle.group_engine.proofs.gaining.overflows_past.Goals as goal

pub returns-in-None : goal.returns-in-None
returns-in-None c =
    sym (ap (any_bad (is_bad c.args.refreshes c.args.which.now (group_seen c.args.group.now) c.args.store.now c.args.hidden.now.table)) (table_none c.args.tables.now.tables c.args.group.now.def.tree.root.table.0 c.in-None.ensures)
    ∙ none_bad (is_bad c.args.refreshes c.args.which.now (group_seen c.args.group.now) c.args.store.now c.args.hidden.now.table))
