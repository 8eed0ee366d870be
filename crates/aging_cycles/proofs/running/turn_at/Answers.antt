use Rattle.std.proofs.Common.{◌∙◌, ap, arith, length}
use Rattle.group_catalog.specs.Catalogs.{groups_in}
use Rattle.cache_tier.specs.Groups.{Group}
use Rattle.cache_tier.specs.Sets.{alone, changed_from}
use Rattle.aging_cycles.proofs.Steps.{changed_long}
use Rattle.aging_cycles.proofs.running.turn_at.Goals as goal

pub with_aged-requires : goal.with_aged-requires
with_aged-requires c =
    let long = ap (λ (gs : _). length gs) c.with_horizon.ensures ∙ changed_long c.args.place (λ (g : Group). record g { horizon = c.args.horizon }) 0 (groups_in c.args.tier.now.catalog) in
    let lt = c.requires in
    omega (arith, long, lt)

pub returns-clause-groups : goal.returns-clause-groups
returns-clause-groups c =
    c.with_aged.ensures
    ∙ ap (changed_from (alone c.args.place) (λ (g : Group). record g { aged = c.args.tier.now.clock.now }) 0)
    c.with_horizon.ensures
