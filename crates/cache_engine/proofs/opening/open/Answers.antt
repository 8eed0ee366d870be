use Rattle.std.proofs.Common.{subst, sym}
use Rattle.tier_opening.specs.Opening.{Opens}
use Rattle.cache_engine.proofs.OpeningLaws.{opens_over}
use Rattle.cache_engine.proofs.opening.open.Goals as goal

pub returns-in-Ok-clause-opens : goal.returns-in-Ok-clause-opens
returns-in-Ok-clause-opens g c =
    opens_over g.P.Disk.state g.P.Disk.possible c.args.start.0 c.args.pace c.args.site.now _ c.into_parts-tier.result.0 c.into_parts-tier.result.1
    (subst (λ parts. Opens g.P.Disk.state g.P.Disk.possible c.args.start.0 c.args.pace c.args.site.now c.open_tier.new.site parts.0 parts.1) (sym c.into_parts-tier.ensures) c.in-Ok.ensures.opens)
