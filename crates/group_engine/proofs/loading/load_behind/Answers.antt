use Rattle.stored_tier.specs.Performing.{reply_of}
use Rattle.group_engine.proofs.LoadingLaws.{behind_round, round_ended}
use Rattle.group_engine.proofs.ReadyLaws.{caused_both}
use Rattle.group_engine.proofs.loading.load_behind.Goals as goal

pub returns-in-Err-clause-reads : goal.returns-in-Err-clause-reads
returns-in-Err-clause-reads g c = λ x of writes.
    round_ended g.P.Disk.state g.P.Disk.possible c.args.tier.now c.settle_pending.new.self c.args.journal.now c.settle_pending.new.journal c.args.site.now c.settle_pending.new.site c.args.place x c.args.refreshes c.in-Err.reply c.in-Err.ensures.performs

pub returns-in-Ok-clause-reads : goal.returns-in-Ok-clause-reads
returns-in-Ok-clause-reads g c = λ x of writes.
    behind_round g.P.Disk.state g.P.Disk.possible c.args.tier.now c.settle_pending.new.self c.load_written.new.tier c.args.journal.now c.settle_pending.new.journal c.load_written.new.journal c.args.site.now c.settle_pending.new.site c.load_written.new.site c.args.place x c.args.refreshes (reply_of c.load_written.result)
    c.in-Ok.ensures.performs c.in-Ok.ensures.all (c.load_written.ensures.reads x of writes)

pub returns-in-Ok-clause-cause : goal.returns-in-Ok-clause-cause
returns-in-Ok-clause-cause g c =
    caused_both _ _ _ _ _ (reply_of c.load_written.result) c.in-Ok.ensures.cause
    c.settle_pending.ensures.none c.load_written.ensures.cause
