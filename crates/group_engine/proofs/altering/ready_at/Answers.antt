use Rattle.std.proofs.Common.{[], sym}
use Rattle.cache_tier.specs.AlterSteps.{altered_entries}
use Rattle.group_catalog.specs.Kept.{group_seen}
use Rattle.group_engine.proofs.ReadyLaws.{placed_ready, ready_there}
use Rattle.group_engine.proofs.altering.ready_at.Goals as goal

pub returns-in-Ok-clause-ready : goal.returns-in-Ok-clause-ready
returns-in-Ok-clause-ready c = ready_there _ _ c.args.place (group_seen c.in-Some.group.now) c.args.state c.in-Ok.ready (sym c.in-Some.ensures) c.in-Ok.ensures.ready

pub returns-in-Ok-clause-placed : goal.returns-in-Ok-clause-placed
returns-in-Ok-clause-placed c = placed_ready [] _ c.in-Ok.ready (altered_entries (group_seen c.in-Some.group.now) c.args.state) (c.in-Ok.ensures.ready [])
