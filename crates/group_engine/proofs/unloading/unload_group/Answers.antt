use Rattle.std.proofs.Common.{subst}
use Rattle.stored_tier.specs.Performing.{reply_of}
use Rattle.group_engine.specs.Unloading.{UnloadsHere}
use Rattle.group_engine.proofs.UnloadAims.{not_aimed}
use Rattle.group_engine.proofs.UnloadDone.{unload_done}
use Rattle.group_engine.proofs.unloading.unload_group.Goals as goal

pub returns-in-Err-clause-performs : goal.returns-in-Err-clause-performs
returns-in-Err-clause-performs g c = not_aimed g.P.Disk.state g.P.Disk.possible c.args.tier.now c.args.journal.now c.args.site.now c.args.id c.args.unload.now c.in-Err.refused c.in-Err.ensures

pub returns-in-Ok-clause-performs : goal.returns-in-Ok-clause-performs
returns-in-Ok-clause-performs g c =
    unload_done g.P.Disk.state g.P.Disk.possible c.args.tier.now c.unload_aimed.new.tier c.args.journal.now c.unload_aimed.new.journal c.args.site.now c.unload_aimed.new.site c.args.id c.args.unload.now c.in-Ok.aim c.unload_aimed.result c.in-Ok.ensures
    (subst (λ all. UnloadsHere g.P.Disk.state g.P.Disk.possible c.args.tier.now c.unload_aimed.new.tier c.args.journal.now c.unload_aimed.new.journal c.args.site.now c.unload_aimed.new.site c.args.id c.in-Ok.aim all (reply_of c.unload_aimed.result)) c.asks_all.ensures c.unload_aimed.ensures.performs)
