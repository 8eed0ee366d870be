use Rattle.session_engine.proofs.JoinedWrites.{passed_on_over, unrouted_over}
use Rattle.dynamic_loads.proofs.JoinedStatements.{cached_write}
use Rattle.dynamic_loads.proofs.writing.run_write.Goals as goal

pub returns-in-Err-clause-performs : goal.returns-in-Err-clause-performs
returns-in-Err-clause-performs g c =
    unrouted_over g.P.Disk.state g.P.Disk.possible c.args.tier.now c.args.tier.now c.args.doubt.now c.args.id c.args.write.now c.args.journal.now c.args.site.now c.in-Err.refused c.requires.free c.in-Err.ensures

pub returns-in-Cached-clause-performs : goal.returns-in-Cached-clause-performs
returns-in-Cached-clause-performs g c =
    cached_write g.P.Disk.state g.P.Disk.possible c.args.tier.now c.write_loaded.new.tier c.args.journal.now c.write_loaded.new.journal c.args.site.now c.write_loaded.new.site c.args.id c.args.write.now c.in-Ok.routed c.args.doubt.now c.write_loaded.result
    c.requires.free c.in-Cached.is c.in-Ok.ensures c.write_loaded.ensures.performs

pub returns-clause-performs : goal.returns-clause-performs
returns-clause-performs g c =
    passed_on_over g.P.Disk.state g.P.Disk.possible c.args.tier.now c.pass_write.new.tier c.pass_write.new.doubt c.args.id c.args.write.now c.args.journal.now c.pass_write.new.journal c.args.site.now c.pass_write.new.site c.in-Ok.routed c.pass_write.result
    c.in-PassedOn.is c.in-Ok.ensures c.pass_write.ensures.passes
