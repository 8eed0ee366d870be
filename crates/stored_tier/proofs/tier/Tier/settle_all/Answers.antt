use Rattle.stored_tier.proofs.OverLaws.{over_so}
use Rattle.stored_tier.proofs.tier.Tier.settle_all.Goals as goal

pub returns-in-Ok-clause-performs : goal.returns-in-Ok-clause-performs
returns-in-Ok-clause-performs g c =
    over_so g.P.Disk.state g.P.Disk.possible c.args.self.now _ _ _ c.args.site.now _ _ _ _ (λ w w' stands did. did.0) c.in-Ok.ensures.performs
