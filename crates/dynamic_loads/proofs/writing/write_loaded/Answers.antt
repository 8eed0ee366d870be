use Rattle.dynamic_loads.proofs.JoinedLoads.{written_behind}
use Rattle.dynamic_loads.proofs.writing.write_loaded.Goals as goal

pub returns-clause-performs : goal.returns-clause-performs
returns-clause-performs g c =
    written_behind g.P.Disk.state g.P.Disk.possible c.args.tier.now c.load_wanted.new.tier c.write_cached.new.tier c.args.journal.now c.load_wanted.new.journal c.args.site.now c.load_wanted.new.site c.write_cached.new.site c.args.id c.in-Ok.want
    c.load_wanted.ensures.sessions c.in-Ok-load_wanted.ensures.loads c.args.change.now c.write_cached.result c.in-Ok.ensures c.write_cached.ensures.certain c.write_cached.ensures.unwritten
