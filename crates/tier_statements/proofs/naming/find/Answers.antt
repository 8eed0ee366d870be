use Rattle.std.proofs.Common.{true}
use Rattle.cache_tier.specs.Groups.{is_table_of}
use Rattle.tier_statements.proofs.NameLaws.{one_table}
use Rattle.tier_statements.proofs.naming.find.Goals as goal

pub returns-then-first-cached : goal.returns-then-first-cached
returns-then-first-cached g c =
    one_table (is_table_of (λ x. true) (g.C.Catalog.groups c.args.catalog.now)) c.args.schema.now c.args.name.now c.in-Some.cached c.in-Some-find_table.first
    c.in-Some.ensures.table c.in-Some.ensures.cached c.in-Some-find_table.ensures c.if-first-cached.true
