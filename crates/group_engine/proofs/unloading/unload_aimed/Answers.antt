use Rattle.stored_tier.specs.Performing.{reply_of}
use Rattle.stored_tier.proofs.QuietLaws.{calm_refused}
use Rattle.group_engine.proofs.ReadyLaws.{calm_cause, moved_cause}
use Rattle.group_engine.proofs.UnloadWhole.{left_moved, not_left}
use Rattle.group_engine.proofs.unloading.unload_aimed.Goals as goal

pub returns-in-Err-clause-performs : goal.returns-in-Err-clause-performs
returns-in-Err-clause-performs g c =
    not_left g.P.Disk.state g.P.Disk.possible c.args.tier.now c.args.journal.now c.ready_to_leave.new.journal c.args.site.now c.args.id c.args.aim.now c.args.all c.in-Err.refused c.ready_to_leave.ensures.kept c.in-Err.ensures.memory

pub returns-in-Err-clause-cause : goal.returns-in-Err-clause-cause
returns-in-Err-clause-cause g c = calm_cause _ _ _ (calm_refused c.in-Err.refused)

pub returns-then-aim-clause-performs : goal.returns-then-aim-clause-performs
returns-then-aim-clause-performs g c =
    left_moved g.P.Disk.state g.P.Disk.possible c.args.tier.now c.unload_whole.new.tier c.args.journal.now c.ready_to_leave.new.journal c.unload_whole.new.journal c.args.site.now c.unload_whole.new.site c.in-Ok.ready c.args.id c.args.aim.now c.args.all (reply_of c.unload_whole.result)
    c.ready_to_leave.ensures.kept c.in-Ok.ensures.ready (c.unload_whole.ensures.performs c.args.id c.args.all)

pub returns-then-aim-clause-cause : goal.returns-then-aim-clause-cause
returns-then-aim-clause-cause g c = moved_cause _ _ _ _ _ c.ready_to_leave.ensures.kept c.unload_whole.ensures.cause

pub returns-clause-performs : goal.returns-clause-performs
returns-clause-performs g c =
    left_moved g.P.Disk.state g.P.Disk.possible c.args.tier.now c.unload_matching.new.tier c.args.journal.now c.ready_to_leave.new.journal c.unload_matching.new.journal c.args.site.now c.unload_matching.new.site c.in-Ok.ready c.args.id c.args.aim.now c.args.all (reply_of c.unload_matching.result)
    c.ready_to_leave.ensures.kept c.in-Ok.ensures.ready c.unload_matching.ensures.performs

pub returns-clause-cause : goal.returns-clause-cause
returns-clause-cause g c = moved_cause _ _ _ _ _ c.ready_to_leave.ensures.kept c.unload_matching.ensures.cause
