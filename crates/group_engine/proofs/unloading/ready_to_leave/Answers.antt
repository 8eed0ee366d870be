use Rattle.std.proofs.Common.{[], sym}
use Rattle.cache_tier.specs.UnloadSteps.{unload_entries}
use Rattle.group_catalog.specs.Kept.{group_seen}
use Rattle.group_engine.proofs.ReadyLaws.{placed_ready}
use Rattle.group_engine.proofs.UnloadWhole.{leave_there}
use Rattle.group_engine.proofs.unloading.ready_to_leave.Goals as goal

pub returns-in-Ok-clause-ready : goal.returns-in-Ok-clause-ready
returns-in-Ok-clause-ready c = leave_there _ _ c.args.place c.args.all (group_seen c.in-Some.group.now) c.in-Ok.ready (sym c.in-Some.ensures) c.in-Ok.ensures.ready

pub returns-in-Ok-clause-placed : goal.returns-in-Ok-clause-placed
returns-in-Ok-clause-placed c = placed_ready [] _ c.in-Ok.ready (unload_entries c.args.all (group_seen c.in-Some.group.now)) (c.in-Ok.ensures.ready [])
