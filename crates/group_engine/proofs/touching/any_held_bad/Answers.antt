use Rattle.std.proofs.Common.{◌∙◌, ap, sym}
use Rattle.stored_tier.proofs.GatherLaws.{table_none}
use Rattle.group_engine.specs.Gaining.{any_bad}
use Rattle.group_engine.specs.Touching.{is_held_bad}
use Rattle.group_engine.proofs.GainingLaws.{none_bad}
use Rattle.group_engine.proofs.touching.any_held_bad.Goals as goal

pub returns-in-None : goal.returns-in-None
returns-in-None c =
    sym (ap (any_bad (is_held_bad c.args.which.now c.args.store.now c.args.hidden.now.table)) (table_none c.args.tables.now.tables c.args.table.0 c.in-None.ensures)
    ∙ none_bad (is_held_bad c.args.which.now c.args.store.now c.args.hidden.now.table))
