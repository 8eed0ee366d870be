use Rattle.std.proofs.Common.{sym}
use Rattle.stored_tier.specs.Performing.{stop_of}
use Rattle.cache_engine.specs.DueItems.{over}
use Rattle.cache_engine.proofs.DueStored.{round_item, round_passes}
use Rattle.cache_engine.proofs.due_work.settle_due.Goals as goal

pub returns-then-not-is_round_due-clause-does : goal.returns-then-not-is_round_due-clause-does
returns-then-not-is_round_due-clause-does g c =
    round_passes g.P.Disk.state g.P.Disk.possible c.args.tier.now (over c.args.journal.now c.args.site.now) c.args.notes.now.items (sym c.if-not-is_round_due.ensures)

pub returns-clause-does : goal.returns-clause-does
returns-clause-does g c =
    round_item g.P.Disk.state g.P.Disk.possible c.args.tier.now c.settle_all-end.new.self (over c.args.journal.now c.args.site.now)
    (over c.settle_all-end.new.journal c.settle_all-end.new.site) c.args.notes.now.items c.note_end.new.notes.items
    (stop_of c.settle_all-end.result) c.note_end.result (sym c.if-not-is_round_due.ensures)
    c.settle_all-end.ensures.performs c.settle_all-end.ensures.cause c.settle_all-end.ensures.none
    c.settle_all-end.ensures.same c.settle_all-end.ensures.clock c.note_end.ensures.notes c.note_end.ensures.stop
