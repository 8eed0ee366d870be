use Rattle.group_catalog.specs.Kept.{group_seen}
use Rattle.dynamic_loads.proofs.TakenParts.{none_viewed}
use Rattle.dynamic_loads.proofs.taking.is_viewed.Goals as goal

pub returns-in-None : goal.returns-in-None
returns-in-None c = none_viewed (group_seen c.args.group.now) c.args.instance.now c.in-None.ensures
