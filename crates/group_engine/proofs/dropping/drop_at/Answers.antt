use Rattle.stored_tier.specs.Performing.{reply_of}
use Rattle.stored_tier.proofs.QuietLaws.{calm_refused}
use Rattle.group_engine.proofs.DroppingLaws.{drop_moved, drop_refused, drop_wanting, same_groups}
use Rattle.group_engine.proofs.ReadyLaws.{calm_cause, moved_cause}
use Rattle.group_engine.proofs.dropping.drop_at.Goals as goal

pub returns-in-Err-clause-performs : goal.returns-in-Err-clause-performs
returns-in-Err-clause-performs g c = drop_refused g.P.Disk.state g.P.Disk.possible c.args.tier.now c.args.journal.now c.args.site.now c.args.id c.args.place c.in-Err.refused c.in-Err.ensures

pub returns-in-Err-clause-cause : goal.returns-in-Err-clause-cause
returns-in-Err-clause-cause g c = calm_cause _ _ _ (calm_refused c.in-Err.refused)

pub returns-in-Err-ready_to_go-clause-performs : goal.returns-in-Err-ready_to_go-clause-performs
returns-in-Err-ready_to_go-clause-performs g c =
    drop_wanting g.P.Disk.state g.P.Disk.possible c.args.tier.now c.args.tier.now c.args.journal.now c.ready_to_go.new.journal c.args.site.now c.args.id c.args.place c.in-Err-ready_to_go.refused c.ready_to_go.ensures.kept (same_groups _) c.in-Err-ready_to_go.ensures.memory

pub returns-in-Err-ready_to_go-clause-cause : goal.returns-in-Err-ready_to_go-clause-cause
returns-in-Err-ready_to_go-clause-cause g c = calm_cause _ _ _ (calm_refused c.in-Err-ready_to_go.refused)

pub returns-in-Ok-ready_to_go-clause-performs : goal.returns-in-Ok-ready_to_go-clause-performs
returns-in-Ok-ready_to_go-clause-performs g c =
    drop_moved g.P.Disk.state g.P.Disk.possible c.args.tier.now c.take_away.new.tier c.args.journal.now c.ready_to_go.new.journal c.take_away.new.journal c.args.site.now c.take_away.new.site c.args.id c.args.place (reply_of c.take_away.result) c.ready_to_go.ensures.kept c.take_away.ensures.performs

pub returns-in-Ok-ready_to_go-clause-cause : goal.returns-in-Ok-ready_to_go-clause-cause
returns-in-Ok-ready_to_go-clause-cause g c = moved_cause _ _ _ _ _ c.ready_to_go.ensures.kept c.take_away.ensures.cause
