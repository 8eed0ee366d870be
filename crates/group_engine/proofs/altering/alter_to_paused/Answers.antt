use Rattle.group_engine.proofs.AlteringLaws.{paused_alone, paused_with}
use Rattle.group_engine.proofs.altering.alter_to_paused.Goals as goal

pub returns-then-not-leaves_off-clause-alters : goal.returns-then-not-leaves_off-clause-alters
returns-then-not-leaves_off-clause-alters g c =
    paused_alone g.P.Disk.state g.P.Disk.possible c.args.tier.now c.give_state.new.tier c.args.journal.now c.give_state.new.journal c.args.site.now c.give_state.new.site c.args.ready.now c.args.place c.leaves_off.result c.give_state.result c.leaves_off.ensures c.if-not-leaves_off.true
    c.give_state.ensures.alters

pub returns-clause-alters : goal.returns-clause-alters
returns-clause-alters g c =
    paused_with g.P.Disk.state g.P.Disk.possible c.args.tier.now c.alter_with.new.tier c.args.journal.now c.alter_with.new.journal c.args.site.now c.alter_with.new.site c.args.ready.now c.args.place c.leaves_off.result c.alter_with.result c.leaves_off.ensures c.if-not-leaves_off.false
    c.alter_with.ensures.alters
