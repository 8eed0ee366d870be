use Rattle.std.proofs.Common.{Err, sym, subst}
use Rattle.resolution.specs.Results.{Gives}
use Rattle.resolution.specs.Writes.{change_seen}
use Rattle.tier_statements.specs.Sights.{FindsTable, StandsForOne, cached_alone}
use Rattle.tier_statements.proofs.NameLaws.{write_is, write_refused}
use Rattle.tier_statements.proofs.naming.name_cached_write.Goals as goal

pub returns-in-Err : goal.returns-in-Err
returns-in-Err g c =
    let seen = cached_alone (g.C.Catalog.groups c.args.catalog.now) c.args.schema.now in
    write_refused seen c.args.schema.now c.args.write.now c.in-Err.refused
    (subst (λ n. FindsTable seen c.args.schema.now n (Err c.in-Err.refused)) c.table_of.ensures c.in-Err.ensures)

pub returns-in-Ok : goal.returns-in-Ok
returns-in-Ok g c =
    let seen = cached_alone (g.C.Catalog.groups c.args.catalog.now) c.args.schema.now in
    subst (λ r. Gives change_seen r c.resolve_write.result)
    (sym (write_is seen c.args.schema.now c.args.write.now (subst (StandsForOne seen c.args.schema.now) c.table_of.ensures c.in-Ok.ensures)))
    c.resolve_write.ensures
