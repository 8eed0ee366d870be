use Rattle.std.proofs.Common.{Some, subst, sym}
use Rattle.stored_tier.specs.Performing.{reply_of}
use Rattle.group_engine.specs.Taking.{IsSettledAt, PerformsWhere, ReadsMatching}
use Rattle.group_engine.proofs.ReadyLaws.{calm_cause, moved_cause}
use Rattle.group_engine.proofs.WrittenLaws.{reads_moved, reads_not_ready}
use Rattle.stored_tier.proofs.QuietLaws.{calm_refused}
use Rattle.group_engine.proofs.loading_written.load_written.Goals as goal

pub returns-in-Err-clause-reads : goal.returns-in-Err-clause-reads
returns-in-Err-clause-reads g c = λ x of writes.
    reads_not_ready g.P.Disk.state g.P.Disk.possible c.args.tier.now c.args.journal.now c.ready_to_load.new.journal c.args.site.now c.args.place x c.args.refreshes c.in-Err.refused c.ready_to_load.ensures.kept c.in-Err.ensures.memory

pub returns-in-Err-clause-cause : goal.returns-in-Err-clause-cause
returns-in-Err-clause-cause g c = calm_cause _ _ _ (calm_refused c.in-Err.refused)

pub load_matching-requires-clause-may : goal.load_matching-requires-clause-may
load_matching-requires-clause-may g c = c.is_touched.ensures.taken c.if-is_touched.false

pub refresh_held-requires-clause-dynamic : goal.refresh_held-requires-clause-dynamic
refresh_held-requires-clause-dynamic g c = (c.is_touched.ensures.touched c.if-is_touched.true).0

pub refresh_held-requires-clause-within : goal.refresh_held-requires-clause-within
refresh_held-requires-clause-within g c = (c.is_touched.ensures.touched c.if-is_touched.true).2

pub returns-then-is_touched-clause-reads : goal.returns-then-is_touched-clause-reads
returns-then-is_touched-clause-reads g c = λ x of writes.
    reads_moved g.P.Disk.state g.P.Disk.possible c.args.tier.now c.refresh_held.new.tier c.args.journal.now c.ready_to_load.new.journal c.refresh_held.new.journal c.args.site.now c.refresh_held.new.site c.args.place x.group _ _ c.ready_to_load.ensures.kept
    (subst (λ b. PerformsWhere (IsSettledAt c.args.place x.group) g.P.Disk.state g.P.Disk.possible c.args.tier.now c.refresh_held.new.tier c.ready_to_load.new.journal c.refresh_held.new.journal c.args.site.now c.refresh_held.new.site (Some (reply_of c.refresh_held.result)) (λ w w'. ReadsMatching b x w w' (reply_of c.refresh_held.result)))
    (sym (c.is_touched.ensures.touched c.if-is_touched.true).1) (c.refresh_held.ensures.reads x of writes))

pub returns-then-is_touched-clause-cause : goal.returns-then-is_touched-clause-cause
returns-then-is_touched-clause-cause g c = moved_cause _ _ _ _ _ c.ready_to_load.ensures.kept c.refresh_held.ensures.cause

pub returns-else-is_touched-clause-reads : goal.returns-else-is_touched-clause-reads
returns-else-is_touched-clause-reads g c = λ x of writes.
    reads_moved g.P.Disk.state g.P.Disk.possible c.args.tier.now c.load_matching.new.tier c.args.journal.now c.ready_to_load.new.journal c.load_matching.new.journal c.args.site.now c.load_matching.new.site c.args.place x.group _ _ c.ready_to_load.ensures.kept (c.load_matching.ensures.reads x of writes)

pub returns-else-is_touched-clause-cause : goal.returns-else-is_touched-clause-cause
returns-else-is_touched-clause-cause g c = moved_cause _ _ _ _ _ c.ready_to_load.ensures.kept c.load_matching.ensures.cause
