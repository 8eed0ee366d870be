use Rattle.propagators.proofs.CertainLaws.{certain_then}
use Rattle.reopening.proofs.OpeningLaws.{reloaded}
use Rattle.reopening.proofs.reloading.reload.Goals as goal

pub returns-in-Ok-clause-performs : goal.returns-in-Ok-clause-performs
returns-in-Ok-clause-performs g c = reloaded c.args.tier.now c.view_again.new.tier c.hold_again.new.tier _ _ _ _ c.in-Ok.ensures.performs c.hold_again.ensures.performs

pub returns-in-Ok-clause-certain : goal.returns-in-Ok-clause-certain
returns-in-Ok-clause-certain g c = certain_then g.P.Disk.state g.P.Disk.possible c.args.site.now c.view_again.new.site c.hold_again.new.site c.in-Ok.ensures.certain c.hold_again.ensures.certain
