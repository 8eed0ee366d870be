use Rattle.std.proofs.Common.{ap}
use Rattle.stored_tier.specs.declared.tier.Tier.{Tier as Stored}
use Rattle.stored_tier.specs.Performing.{reply_of}
use Rattle.stored_tier.proofs.QuietLaws.{calm_refused}
use Rattle.group_engine.proofs.DroppingLaws.{ended, not_dropped, went}
use Rattle.group_engine.proofs.ReadyLaws.{calm_cause, caused_both}
use Rattle.group_engine.proofs.dropping.drop_group.Goals as goal

pub returns-in-Err-clause-performs : goal.returns-in-Err-clause-performs
returns-in-Err-clause-performs g c = not_dropped g.P.Disk.state g.P.Disk.possible c.args.tier.now c.args.journal.now c.args.site.now c.args.id c.args.name.now c.in-Err.refused c.in-Err.ensures.told

pub returns-in-Err-clause-cause : goal.returns-in-Err-clause-cause
returns-in-Err-clause-cause g c = calm_cause _ _ _ (calm_refused c.in-Err.refused)

pub returns-in-Err-settle_for-clause-performs : goal.returns-in-Err-settle_for-clause-performs
returns-in-Err-settle_for-clause-performs g c =
    ended g.P.Disk.state g.P.Disk.possible c.args.tier.now c.settle_for.new.tier c.args.journal.now c.settle_for.new.journal c.args.site.now c.settle_for.new.site
    c.args.id c.args.name.now c.in-Ok.place c.in-Err-settle_for.reply c.requires c.in-Ok.ensures.told c.in-Ok.ensures.place c.in-Err-settle_for.ensures.performs

pub returns-in-Ok-settle_for-clause-performs : goal.returns-in-Ok-settle_for-clause-performs
returns-in-Ok-settle_for-clause-performs g c =
    went g.P.Disk.state g.P.Disk.possible c.args.tier.now c.settle_for.new.tier c.drop_at.new.tier c.args.journal.now c.settle_for.new.journal c.drop_at.new.journal c.args.site.now c.settle_for.new.site c.drop_at.new.site
    c.args.id c.args.name.now c.in-Ok.place c.drop_at.result c.requires
    (record { catalog = ap (λ (t : Stored). t.catalog) c.in-Ok-settle_for.ensures.same; sessions = ap (λ (t : Stored). t.sessions) c.in-Ok-settle_for.ensures.same })
    c.in-Ok.ensures.told c.in-Ok.ensures.place c.in-Ok-settle_for.ensures.performs c.drop_at.ensures.performs

pub returns-in-Ok-settle_for-clause-cause : goal.returns-in-Ok-settle_for-clause-cause
returns-in-Ok-settle_for-clause-cause g c =
    caused_both _ _ _ _ _ (reply_of c.drop_at.result) c.in-Ok-settle_for.ensures.cause
    c.settle_for.ensures.none c.drop_at.ensures.cause
