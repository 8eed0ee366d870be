use Rattle.group_engine.proofs.AlteringLaws.{altered, not_altered}
use Rattle.group_engine.proofs.altering.alter_group.Goals as goal

pub returns-in-Err-clause-performs : goal.returns-in-Err-clause-performs
returns-in-Err-clause-performs g c =
    not_altered g.P.Disk.state g.P.Disk.possible c.args.tier.now c.args.journal.now c.args.site.now c.args.id c.args.alter.now c.in-Err.refused c.in-Err.ensures.aims

pub returns-in-Ok-clause-performs : goal.returns-in-Ok-clause-performs
returns-in-Ok-clause-performs g c =
    altered g.P.Disk.state g.P.Disk.possible c.args.tier.now c.alter_at.new.tier c.args.journal.now c.alter_at.new.journal c.args.site.now c.alter_at.new.site c.args.id c.args.alter.now c.in-Ok.place c.alter_at.result c.in-Ok.ensures.aims c.alter_at.ensures.alters
