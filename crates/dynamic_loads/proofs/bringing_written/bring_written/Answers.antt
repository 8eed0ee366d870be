use Rattle.statement_uses.specs.Wanting.{want_seen}
use Rattle.stored_tier.specs.Performing.{stop_of}
use Rattle.dynamic_loads.proofs.RoundLaws.{behind_round}
use Rattle.dynamic_loads.proofs.StopLaws.{stop_behind}
use Rattle.dynamic_loads.proofs.bringing_written.bring_written.Goals as goal

pub returns-in-Ok-clause-brings : goal.returns-in-Ok-clause-brings
returns-in-Ok-clause-brings g c =
    behind_round g.P.Disk.state g.P.Disk.possible c.args.tier.now c.settle_pending.new.self c.reach_written.new.tier c.args.journal.now c.settle_pending.new.journal c.args.site.now c.settle_pending.new.site c.reach_written.new.site c.args.place (want_seen c.args.want.now) (stop_of c.reach_written.result)
    c.in-Ok.ensures.performs c.reach_written.ensures.certain c.reach_written.ensures.reaches

pub returns-in-Ok-clause-cause : goal.returns-in-Ok-clause-cause
returns-in-Ok-clause-cause g c =
    stop_behind c.args.journal.now c.settle_pending.new.journal (g.P.Disk.state c.args.site.now) (g.P.Disk.state c.settle_pending.new.site) (g.P.Disk.state c.reach_written.new.site) (stop_of c.reach_written.result)
    c.in-Ok.ensures.cause c.settle_pending.ensures.none c.reach_written.ensures.disk c.reach_written.ensures.cause
