use Rattle.backing_sqlite.proofs.loading.put.Goals as goal

pub returns-in-Ok : goal.returns-in-Ok
returns-in-Ok c = record { keyed = c.keyed_law.ensures.all c.args.ops.now _ _ c.in-Ok.ensures.ok c.requires }
