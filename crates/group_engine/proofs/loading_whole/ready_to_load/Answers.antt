use Rattle.std.proofs.Common.{[], sym}
use Rattle.cache_tier.specs.Targets.{load_entries}
use Rattle.group_catalog.specs.Kept.{group_seen}
use Rattle.group_engine.proofs.ReadyLaws.{placed_ready}
use Rattle.group_engine.proofs.WholeLaws.{load_there}
use Rattle.group_engine.proofs.loading_whole.ready_to_load.Goals as goal

pub returns-in-Ok-clause-ready : goal.returns-in-Ok-clause-ready
returns-in-Ok-clause-ready c = load_there _ _ c.args.place (group_seen c.in-Some.group.now) c.in-Ok.ready (sym c.in-Some.ensures) c.in-Ok.ensures.ready

pub returns-in-Ok-clause-placed : goal.returns-in-Ok-clause-placed
returns-in-Ok-clause-placed c = placed_ready [] _ c.in-Ok.ready (load_entries (group_seen c.in-Some.group.now)) (c.in-Ok.ensures.ready [])
