use Rattle.std.proofs.Common.{subst}
use Rattle.stored_tier.specs.Performing.{IsStopCausedOver, stop_of}
use Rattle.group_engine.proofs.SameSites.{joined_from}
use Rattle.group_engine.proofs.bringing.bring_joined.Goals as goal

pub returns-in-None-clause-brings : goal.returns-in-None-clause-brings
returns-in-None-clause-brings g c =
    joined_from g.P.Disk.state g.P.Disk.possible c.args.site.now c.told_since.new.site c.told_since.ensures.looks _ _ _ _ _ _ _ _ _ c.bring_snapshot.ensures.brings

pub returns-in-None-clause-cause : goal.returns-in-None-clause-cause
returns-in-None-clause-cause g c = subst (λ s. IsStopCausedOver c.args.journal.now s (g.P.Disk.state c.bring_snapshot.new.site) (stop_of c.bring_snapshot.result)) c.told_since.ensures.looks.same c.bring_snapshot.ensures.cause

pub returns-in-Some-clause-brings : goal.returns-in-Some-clause-brings
returns-in-Some-clause-brings g c =
    joined_from g.P.Disk.state g.P.Disk.possible c.args.site.now c.told_since.new.site c.told_since.ensures.looks _ _ _ _ _ _ _ _ _ c.bring_changed.ensures.brings

pub returns-in-Some-clause-cause : goal.returns-in-Some-clause-cause
returns-in-Some-clause-cause g c = subst (λ s. IsStopCausedOver c.args.journal.now s (g.P.Disk.state c.bring_changed.new.site) (stop_of c.bring_changed.result)) c.told_since.ensures.looks.same c.bring_changed.ensures.cause
