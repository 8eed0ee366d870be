use Rattle.group_catalog.specs.Kept.{group_seen}
use Rattle.changed_sets.proofs.PrepareSteps.{none_past}
use Rattle.changed_sets.proofs.preparing.is_past.Goals as goal

pub returns-in-None : goal.returns-in-None
returns-in-None c = none_past (group_seen c.args.group.now) c.args.instance.now c.in-None.ensures
