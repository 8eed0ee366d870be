use Rattle.std.proofs.Common.{◌∙◌, refl}
use Rattle.tier_statements.proofs.RouteLaws.{query_way}
use Rattle.tier_statements.proofs.routing.route_query.Goals as goal

pub returns : goal.returns
returns g c = λ t schema has.
    c.route_where.ensures ∙ query_way schema _ t has c.args.level c.args.tables.now _ _ refl c.are_cached.ensures
