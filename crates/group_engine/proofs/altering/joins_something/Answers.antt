use Rattle.group_catalog.specs.Kept.{group_seen}
use Rattle.group_engine.proofs.AlteringLaws.{joins_alone, joins_none, joins_set}
use Rattle.group_engine.proofs.altering.joins_something.Goals as goal

pub returns-in-None : goal.returns-in-None
returns-in-None c = joins_none c.args.tier.now c.args.place c.in-None.ensures

pub returns-then-has_something : goal.returns-then-has_something
returns-then-has_something c = joins_alone c.args.tier.now c.args.place c.has_something.result c.has_something.ensures c.if-has_something.true

pub returns-else-has_something : goal.returns-else-has_something
returns-else-has_something c =
    joins_set c.args.tier.now c.args.place c.has_something.result c.shows_something.result (group_seen c.in-Some.group.now) c.in-Some.ensures
    c.has_something.ensures c.if-has_something.false c.shows_something.ensures
