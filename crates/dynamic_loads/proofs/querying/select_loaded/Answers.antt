use Rattle.dynamic_loads.proofs.JoinedLoads.{selected_behind}
use Rattle.dynamic_loads.proofs.querying.select_loaded.Goals as goal

pub returns-in-Ok-load_wanted-clause-performs : goal.returns-in-Ok-load_wanted-clause-performs
returns-in-Ok-load_wanted-clause-performs g c =
    selected_behind g.P.Disk.state g.P.Disk.possible c.args.tier.now c.load_wanted.new.tier c.select_cached.new.tier c.args.journal.now c.load_wanted.new.journal c.args.site.now c.load_wanted.new.site c.load_wanted.new.site c.args.id c.in-Ok.want
    c.load_wanted.ensures.sessions c.in-Ok-load_wanted.ensures.loads c.args.query c.select_cached.result c.in-Ok.ensures (c.select_cached.ensures.performs (g.P.Disk.state c.load_wanted.new.site))
