use Rattle.stored_tier.specs.Performing.{reply_of}
use Rattle.stored_tier.specs.Refreshing.{choice_of}
use Rattle.group_engine.proofs.NotedLaws.{dynamic_noted, whole_noted}
use Rattle.group_engine.proofs.loading_whole.load_noted.Goals as goal

pub returns-then-is_dynamic_at-clause-loads : goal.returns-then-is_dynamic_at-clause-loads
returns-then-is_dynamic_at-clause-loads g c =
    dynamic_noted g.P.Disk.state g.P.Disk.possible c.args.tier.now _ c.args.journal.now _ c.args.site.now _ c.args.aim.now.place c.args.aim.now.which c.args.refreshes (reply_of c.load_dynamic.result) (choice_of c.args.chosen) (c.is_dynamic_at.ensures.dynamic c.if-is_dynamic_at.true) c.load_dynamic.ensures.reads

pub returns-clause-loads : goal.returns-clause-loads
returns-clause-loads g c =
    whole_noted g.P.Disk.state g.P.Disk.possible c.args.tier.now _ c.args.journal.now _ c.args.site.now _ c.args.aim.now.place c.args.aim.now.which c.args.refreshes c.load_with.result (choice_of c.args.chosen) (c.is_dynamic_at.ensures.explicit c.if-is_dynamic_at.false) c.load_with.ensures.loads

pub load_dynamic-requires-clause-dynamic : goal.load_dynamic-requires-clause-dynamic
load_dynamic-requires-clause-dynamic g c = c.is_dynamic_at.ensures.dynamic c.if-is_dynamic_at.true

pub load_with-requires-clause-explicit : goal.load_with-requires-clause-explicit
load_with-requires-clause-explicit g c = c.is_dynamic_at.ensures.explicit c.if-is_dynamic_at.false
