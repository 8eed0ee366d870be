use Rattle.std.proofs.Common.{sym, subst}
use Rattle.std.specs.List.{All}
use Rattle.resolution.specs.Queries.{query_seen}
use Rattle.resolution.specs.Results.{Gives}
use Rattle.tier_statements.specs.Sights.{StandsForOne, cached_alone}
use Rattle.tier_statements.proofs.NameLaws.{query_is}
use Rattle.tier_statements.proofs.naming.name_cached_query.Goals as goal

pub returns-in-Ok : goal.returns-in-Ok
returns-in-Ok g c =
    let seen = cached_alone (g.C.Catalog.groups c.args.catalog.now) c.args.schema.now in
    subst (λ r. Gives query_seen r c.resolve_query.result)
    (sym (query_is seen c.args.schema.now c.args.query.now (subst (All (λ f. StandsForOne seen c.args.schema.now f.table)) c.as_slice.ensures c.in-Ok.ensures)))
    c.resolve_query.ensures
