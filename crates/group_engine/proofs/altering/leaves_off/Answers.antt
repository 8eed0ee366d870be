use Rattle.std.proofs.Common.{sym}
use Rattle.group_catalog.specs.Kept.{group_seen}
use Rattle.group_engine.proofs.AlteringLaws.{leaves_none, leaves_not, leaves_so}
use Rattle.group_engine.proofs.altering.leaves_off.Goals as goal

pub returns-in-None : goal.returns-in-None
returns-in-None c = leaves_none c.args.tier.now c.args.place c.in-None.ensures

pub returns-then-not-is_off : goal.returns-then-not-is_off
returns-then-not-is_off c = leaves_not c.args.tier.now c.args.place (group_seen c.in-Some.group.now) c.in-Some.ensures (sym c.if-not-is_off.ensures)

pub returns-else-not-is_off : goal.returns-else-not-is_off
returns-else-not-is_off c = leaves_so c.args.tier.now c.args.place c.has_something.result (group_seen c.in-Some.group.now) c.in-Some.ensures (sym c.if-not-is_off.ensures) c.has_something.ensures
