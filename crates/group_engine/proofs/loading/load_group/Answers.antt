use Rattle.std.proofs.Common.{false}
use Rattle.group_engine.proofs.LoadingLaws.{loaded, not_aimed}
use Rattle.group_engine.proofs.loading.load_group.Goals as goal

pub returns-in-Err-clause-performs : goal.returns-in-Err-clause-performs
returns-in-Err-clause-performs g c = not_aimed g.P.Disk.state g.P.Disk.possible c.args.tier.now c.args.journal.now c.args.site.now c.args.id false c.args.load.now c.in-Err.refused c.in-Err.ensures

pub returns-in-Ok-clause-performs : goal.returns-in-Ok-clause-performs
returns-in-Ok-clause-performs g c =
    loaded g.P.Disk.state g.P.Disk.possible c.args.tier.now c.load_aimed.new.tier c.args.journal.now c.load_aimed.new.journal c.args.site.now c.load_aimed.new.site c.args.id false c.args.load.now c.in-Ok.aim c.load_aimed.result c.in-Ok.ensures c.load_aimed.ensures.loads
