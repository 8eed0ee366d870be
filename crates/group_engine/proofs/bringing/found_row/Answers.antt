use Rattle.std.proofs.Common.{◌∙◌, sym}
use Rattle.group_catalog.specs.Kept.{group_seen}
use Rattle.group_engine.proofs.BringRoots.{none_found}
use Rattle.group_engine.proofs.bringing.found_row.Goals as goal

pub returns-in-None : goal.returns-in-None
returns-in-None c = c.new.ensures ∙ sym (none_found (group_seen c.args.group.now) c.args.store.now c.args.hidden.now.table c.args.key.now c.args.tables.now.tables c.args.group.now.def.tree.root.table.0 c.in-None.ensures)
