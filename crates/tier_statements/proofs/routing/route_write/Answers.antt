use Rattle.std.proofs.Common.{refl, ◌∙◌}
use Rattle.resolution.specs.Writes.{change_seen}
use Rattle.cache_tier.specs.Routes.{visible}
use Rattle.tier_statements.proofs.RouteLaws.{names_broken, refusal_is, resolved_as, routed_is, way_broken}
use Rattle.tier_statements.proofs.routing.route_write.Goals as goal

pub returns-in-Err : goal.returns-in-Err
returns-in-Err g c = λ t s has level_is own_is.
    names_broken t s c.args.write.now c.args.level (visible c.args.level t) level_is refl _ (c.in-Err.ensures t has)

pub returns-in-Err-route_of : goal.returns-in-Err-route_of
returns-in-Err-route_of g c = λ t s has level_is own_is.
    way_broken t s c.args.write.now c.args.level (visible c.args.level t) level_is refl (change_seen c.in-Ok.change) (c.in-Ok.ensures t has) _
    (c.in-Err-route_of.ensures.told t s (change_seen c.in-Ok.change) has level_is own_is refl)

pub returns-in-Ok-route_of : goal.returns-in-Ok-route_of
returns-in-Ok-route_of g c = λ t s has level_is own_is.
    record {
      unbroken = refusal_is t s c.args.write.now c.args.level (visible c.args.level t) level_is refl (change_seen c.in-Ok.change) (c.in-Ok.ensures t has)
          ∙ c.in-Ok-route_of.ensures.told t s (change_seen c.in-Ok.change) has level_is own_is refl;
      resolved = resolved_as t s c.args.write.now c.args.level (visible c.args.level t) level_is refl (change_seen c.in-Ok.change) (c.in-Ok.ensures t has);
      way = routed_is t s c.args.write.now c.args.level (visible c.args.level t) level_is refl (change_seen c.in-Ok.change) (c.in-Ok.ensures t has) _ _
          (c.in-Ok-route_of.ensures.way t has);
    }
