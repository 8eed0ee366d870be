use Rattle.group_engine.specs.Taking.{IsGroupAt, ReadsTried}
use Rattle.group_engine.proofs.NotedLaws.{tried_wanting, where_moved}
use Rattle.group_engine.proofs.ReadyLaws.{calm_cause, moved_cause}
use Rattle.stored_tier.proofs.QuietLaws.{calm_refused}
use Rattle.group_engine.proofs.loading_whole.load_whole.Goals as goal

pub returns-in-Err-clause-reads : goal.returns-in-Err-clause-reads
returns-in-Err-clause-reads g c = λ x of reads.
    tried_wanting g.P.Disk.state g.P.Disk.possible c.args.tier.now c.args.tier.now c.args.journal.now c.ready_to_load.new.journal c.args.site.now c.args.aim.now.place x (ReadsTried c.args.refreshes x) c.in-Err.refused c.ready_to_load.ensures.kept (λ w stands. stands) c.in-Err.ensures.memory

pub returns-in-Err-clause-cause : goal.returns-in-Err-clause-cause
returns-in-Err-clause-cause g c = calm_cause _ _ _ (calm_refused c.in-Err.refused)

pub returns-in-Ok-clause-reads : goal.returns-in-Ok-clause-reads
returns-in-Ok-clause-reads g c = λ x of reads.
    where_moved (IsGroupAt c.args.aim.now.place x.group) g.P.Disk.state g.P.Disk.possible c.args.tier.now c.load_ready.new.tier c.args.journal.now c.ready_to_load.new.journal c.load_ready.new.journal c.args.site.now c.load_ready.new.site _ _ c.ready_to_load.ensures.kept (c.load_ready.ensures.reads x of reads)

pub returns-in-Ok-clause-cause : goal.returns-in-Ok-clause-cause
returns-in-Ok-clause-cause g c = moved_cause _ _ _ _ _ c.ready_to_load.ensures.kept c.load_ready.ensures.cause
