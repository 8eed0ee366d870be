use Rattle.std.proofs.Common.{None, refl, sym, subst}
use Rattle.stored_tier.specs.Performing.{IsCausedOver}
use Rattle.stored_tier.proofs.OverLaws.{over_so, over_told}
use Rattle.stored_tier.proofs.SettlingLaws.{drain_ended, drains}
use Rattle.stored_tier.proofs.tier.Tier.drain.Goals as goal

pub returns-in-Ok-clause-performs : goal.returns-in-Ok-clause-performs
returns-in-Ok-clause-performs g c =
    over_told g.P.Disk.state g.P.Disk.possible c.args.self.now _ _ _ c.args.site.now _ None _ _ (λ whole. refl)
    (over_so g.P.Disk.state g.P.Disk.possible c.args.self.now _ _ _ c.args.site.now _ _ _ _ (λ w w' stands. drains c.in-Ok.receipts c.done.result c.done.ensures w w') c.in-Ok.ensures.performs)

pub returns-in-Err-clause-performs : goal.returns-in-Err-clause-performs
returns-in-Err-clause-performs g c =
    over_so g.P.Disk.state g.P.Disk.possible c.args.self.now _ _ _ c.args.site.now _ _ _ _ (λ w w' stands. drain_ended c.in-Err.reply w w') c.in-Err.ensures.performs

pub returns-in-Ok-clause-cause : goal.returns-in-Ok-clause-cause
returns-in-Ok-clause-cause g c = subst (IsCausedOver _ _ _) (sym c.done.ensures) c.in-Ok.ensures.cause
