use Rattle.cache_engine.specs.DueItems.{over}
use Rattle.cache_engine.proofs.DueStored.{due_done, due_ended, due_stopped}
use Rattle.cache_engine.proofs.due_work.do_due.Goals as goal

pub returns-in-Some-clause-does : goal.returns-in-Some-clause-does
returns-in-Some-clause-does g c =
    due_stopped g.P.Disk.state g.P.Disk.possible c.args.tier.now c.settle_due.new.tier (over c.args.journal.now c.args.site.now)
    (over c.settle_due.new.journal c.settle_due.new.site) c.args.notes.now.items c.settle_due.new.notes.items c.in-Some.stop
    c.in-Some.ensures.does

pub returns-in-Some-refresh_sets-clause-does : goal.returns-in-Some-refresh_sets-clause-does
returns-in-Some-refresh_sets-clause-does g c =
    due_ended g.P.Disk.state g.P.Disk.possible c.args.intervals.now c.args.tier.now c.settle_due.new.tier c.refresh_sets.new.tier (over c.args.journal.now c.args.site.now)
    (over c.settle_due.new.journal c.settle_due.new.site) (over c.settle_due.new.journal c.refresh_sets.new.site)
    c.args.notes.now.items c.settle_due.new.notes.items c.refresh_sets.new.notes.items c.in-Some-refresh_sets.stop
    c.in-None.ensures.same c.requires.due c.in-None.ensures.does
    (c.in-Some-refresh_sets.ensures.does c.settle_due.new.journal)

pub returns-in-None-refresh_sets-clause-does : goal.returns-in-None-refresh_sets-clause-does
returns-in-None-refresh_sets-clause-does g c =
    due_done g.P.Disk.state g.P.Disk.possible c.args.intervals.now c.args.tier.now c.settle_due.new.tier c.refresh_sets.new.tier c.age_due.new.tier (over c.args.journal.now c.args.site.now)
    (over c.settle_due.new.journal c.settle_due.new.site) (over c.settle_due.new.journal c.refresh_sets.new.site)
    c.args.notes.now.items c.settle_due.new.notes.items c.refresh_sets.new.notes.items
    c.in-None.ensures.same c.requires.due c.in-None.ensures.does
    (c.in-None-refresh_sets.ensures.does c.settle_due.new.journal) c.age_due.ensures.runs
