use Rattle.std.proofs.Common.{◌∙◌, sym}
use Rattle.stored_tier.specs.Choosing.{comes}
use Rattle.stored_tier.proofs.GatherLaws.{none_chosen}
use Rattle.stored_tier.proofs.gathering.coming_roots.Goals as goal

pub returns-in-None : goal.returns-in-None
returns-in-None c = c.new.ensures ∙ sym (none_chosen (comes c.args.which.now c.args.store.now) c.args.tables.now.tables c.args.table.0 c.in-None.ensures)
